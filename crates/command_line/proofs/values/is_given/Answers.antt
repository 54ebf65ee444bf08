-- The getter reads the text of the flag, where there is one.
use Rattle.std.proofs.Common.{subst, sym}
use Rattle.std.specs.Prelude.{Bool}
use Rattle.clap.specs.Words.{found_of, rows_of}
use Rattle.command_line.specs.Job.{IsGiven}
use Rattle.command_line.proofs.Rows.{given_if_read}
use Rattle.command_line.proofs.values.is_given.Goals as goal

pub returns : goal.returns
returns c = subst (λ (b : Bool). IsGiven c.args.id.now b (rows_of (found_of c.args.given.now))) (sym c.unwrap_or.ensures)
    (given_if_read _ (found_of c.args.given.now) c.args.id.now c.get_one.result c.get_one.ensures.none c.get_one.ensures.value)
