-- The first value stands in the rows.
use Rattle.std.proofs.Common.{◌∙◌}
use Rattle.clap.specs.Words.{found_of}
use Rattle.command_line.proofs.Rows.{first_value_rows, no_word}
use Rattle.command_line.proofs.values.word.Goals as goal

pub returns-clause-word : goal.returns-clause-word
returns-clause-word c = c.get_str.ensures ∙ first_value_rows (found_of c.args.given.now) c.args.id.now

pub returns-clause-none : goal.returns-clause-none
returns-clause-none c = no_word c.get_str.result _ (c.get_str.ensures ∙ first_value_rows (found_of c.args.given.now) c.args.id.now)
