-- The command gains its words, and those of all commands.
use Rattle.std.specs.Prelude.{IfOk, fold}
use Rattle.std.proofs.Common.{subst}
use Rattle.clap.specs.Words.{App, new_app}
use Rattle.command_line.specs.Making.{IsCommand, with_code_word}
use Rattle.command_line.proofs.Made.{gains_words, row_is}
use Rattle.command_line.proofs.making.subcommand.Goals as goal

pub returns : goal.returns
returns c = subst (λ (a : App). IfOk c.with_words-2.result (IsCommand a)) (row_is c.args.row.now c.common_words.result.now c.common_words.ensures)
    (gains_words c.with_words-2.result c.in_ok-command.command
    (fold with_code_word (new_app c.args.row.now.name.now) c.args.row.now.words.now) c.common_words.result.now
    c.with_words-2.ensures (c.in_ok-command.ensures (new_app c.args.row.now.name.now) c.begun-command.ensures))
