use Rattle.fabric.proofs.Meetings.{known_first}
use Rattle.fabric.proofs.laws.known_answers_come_first.Goals as goal

pub returns : goal.returns
returns c = known_first
