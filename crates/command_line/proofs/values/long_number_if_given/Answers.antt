-- An argument without an entry has no number, and one with an entry has one.
use Rattle.clap.specs.Words.{found_of}
use Rattle.command_line.proofs.Rows.{given_in_rows, given_lacks, no_number}
use Rattle.command_line.proofs.values.long_number_if_given.Goals as goal

pub returns-else-contains_id-clause-number : goal.returns-else-contains_id-clause-number
returns-else-contains_id-clause-number c = no_number (found_of c.args.given.now) c.args.id.now (search (c.if-contains_id.false, c.if-contains_id.ensures))

pub returns-in_err-long_number-clause-none : goal.returns-in_err-long_number-clause-none
returns-in_err-long_number-clause-none c = given_lacks c.from_residual.result _ _
    (given_in_rows (found_of c.args.given.now) c.args.id.now (search (c.if-contains_id.true, c.if-contains_id.ensures))) c.in_err-long_number.ensures.none
