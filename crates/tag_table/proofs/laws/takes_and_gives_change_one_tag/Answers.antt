use Rattle.tag_table.proofs.Moves.{taken, given}
use Rattle.tag_table.proofs.laws.takes_and_gives_change_one_tag.Goals as goal

pub returns-clause-taken : goal.returns-clause-taken
returns-clause-taken c = taken

pub returns-clause-given : goal.returns-clause-given
returns-clause-given c = given
