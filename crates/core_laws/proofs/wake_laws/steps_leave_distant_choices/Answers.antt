use Rattle.core_laws.specs.Core.{design_of, after}
use Rattle.core_laws.proofs.Wakes.{ready_after, distant}
use Rattle.core_laws.proofs.wake_laws.steps_leave_distant_choices.Goals as goal

pub returns : goal.returns
returns c = λ l ok steps attempt other next moves ne calm. distant (design_of l) (after l steps) (ready_after l ok steps) attempt next moves other ne calm
