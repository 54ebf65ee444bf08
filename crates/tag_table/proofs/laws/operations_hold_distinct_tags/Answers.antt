use Rattle.tag_table.proofs.Moves.{distinct-taken, distinct-given}
use Rattle.tag_table.proofs.laws.operations_hold_distinct_tags.Goals as goal

pub returns-clause-taken : goal.returns-clause-taken
returns-clause-taken c = distinct-taken

pub returns-clause-given : goal.returns-clause-given
returns-clause-given c = distinct-given
