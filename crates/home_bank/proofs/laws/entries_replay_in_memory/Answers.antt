use Rattle.home_bank.proofs.MemoryReplays.{at_start, others_kept, step_kept}
use Rattle.home_bank.proofs.laws.entries_replay_in_memory.Goals as goal

pub returns : goal.returns
returns c = record { start = at_start; steps = step_kept; others = others_kept }
