use Rattle.fabric.proofs.Meetings.{met, joined}
use Rattle.fabric.proofs.laws.meetings_tell_all_answers.Goals as goal

pub returns : goal.returns
returns c = record { met = met; joined = joined }
