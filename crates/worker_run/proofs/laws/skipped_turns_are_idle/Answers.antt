use Rattle.worker_run.proofs.Skips.{turn}
use Rattle.worker_run.proofs.laws.skipped_turns_are_idle.Goals as goal

pub returns : goal.returns
returns c = turn
