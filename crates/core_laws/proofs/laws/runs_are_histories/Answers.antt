use Rattle.core_laws.proofs.EveryRun.{run_is_history}
use Rattle.core_laws.proofs.laws.runs_are_histories.Goals as goal

pub returns : goal.returns
returns c = run_is_history
