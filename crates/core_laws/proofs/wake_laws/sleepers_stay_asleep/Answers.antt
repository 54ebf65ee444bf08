use Rattle.core_laws.proofs.Sleepers as sleepers
use Rattle.core_laws.proofs.wake_laws.sleepers_stay_asleep.Goals as goal

pub returns : goal.returns
returns c = record {
  falls = sleepers.falls;
  still = sleepers.still;
  unmoved = sleepers.unmoved;
  same = sleepers.same;
  machine = sleepers.same_machine;
}
