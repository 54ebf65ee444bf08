-- The values stand in the rows.
use Rattle.std.proofs.Common.{◌∙◌, sym}
use Rattle.clap.specs.Words.{found_of}
use Rattle.command_line.proofs.Rows.{all_values_rows, no_pair}
use Rattle.command_line.proofs.values.two_words.Goals as goal

pub returns-in_err-pair-in-Some-clause-none : goal.returns-in_err-pair-in-Some-clause-none
returns-in_err-pair-in-Some-clause-none c = no_pair c.from_residual.result c.in-Some.words.now _
    (sym (all_values_rows (found_of c.args.given.now) c.args.id.now) ∙ sym c.in-Some.ensures) c.in_err-pair-in-Some.ensures.none
