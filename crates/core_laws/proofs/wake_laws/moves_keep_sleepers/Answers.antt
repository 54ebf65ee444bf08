use Rattle.core_laws.proofs.WakeRounds as rounds
use Rattle.core_laws.proofs.wake_laws.moves_keep_sleepers.Goals as goal

pub returns : goal.returns
returns c = record {
  all = rounds.all_awake;
  more = λ d s awake more sleep within agent out. sleep agent (within agent out);
  kept = λ l ok steps attempt next awake sleep moves. rounds.moved l ok steps attempt next awake sleep moves;
}
