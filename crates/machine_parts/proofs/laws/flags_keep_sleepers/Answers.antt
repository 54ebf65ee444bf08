use Rattle.machine_parts.proofs.KeptSleepers as sleepers
use Rattle.machine_parts.proofs.laws.flags_keep_sleepers.Goals as goal

pub returns : goal.returns
returns c = record {
  fresh = sleepers.fresh;
  moved = sleepers.moved;
  rested = sleepers.rests;
  choice = sleepers.choice_rests;
  agents = sleepers.agents_sleep;
}
