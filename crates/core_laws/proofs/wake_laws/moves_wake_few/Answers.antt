use Rattle.core_laws.specs.Core.{design_of, after}
use Rattle.core_laws.proofs.Wakes.{ready_after, disturbed_wake, others_sleep, services_wake}
use Rattle.core_laws.proofs.wake_laws.moves_wake_few.Goals as goal

pub returns : goal.returns
returns c = record {
  disturbed = λ l ok steps attempt other h. disturbed_wake (design_of l) (after l steps) (ready_after l ok steps) attempt other h;
  others = λ l ok steps attempt next agent moves out asleep. others_sleep (design_of l) (after l steps) (ready_after l ok steps) attempt next agent moves out
      asleep;
  services = services_wake;
}
