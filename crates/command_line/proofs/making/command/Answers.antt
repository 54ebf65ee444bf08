-- The program gains its commands one after the other.
use Rattle.std.proofs.Common.{subst}
use Rattle.clap.specs.Words.{App}
use Rattle.command_line.specs.Making.{IsCommand}
use Rattle.command_line.proofs.Made.{all_rows, gains_row}
use Rattle.command_line.proofs.making.command.Goals as goal

pub loop-row-preserved : goal.loop-row-preserved
loop-row-preserved c =
    gains_row c.commands-rows.result.now c.loop-row.row-index _ c.loop-row.command c.in_ok-more.more c.in_ok-command.command
    c.loop-row-test.true c.loop-row.invariant c.in_ok-more.ensures c.in_ok-command.ensures

pub returns : goal.returns
returns c = subst (λ (a : App). IsCommand a c.loop-row.command)
    (all_rows c.commands-rows.result.now c.loop-row.row-index c.loop-row-test.false c.commands-rows.ensures) c.loop-row.invariant
