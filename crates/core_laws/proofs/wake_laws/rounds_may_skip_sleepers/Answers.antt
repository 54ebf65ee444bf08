use Rattle.core_laws.proofs.WakeRounds as rounds
use Rattle.core_laws.proofs.wake_laws.rounds_may_skip_sleepers.Goals as goal

pub returns : goal.returns
returns c = record { state = rounds.same_state; awake = rounds.still_asleep }
