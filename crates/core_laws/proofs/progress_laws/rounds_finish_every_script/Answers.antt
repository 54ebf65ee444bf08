use Rattle.core_laws.proofs.Finish.{run_finishes}
use Rattle.core_laws.proofs.progress_laws.rounds_finish_every_script.Goals as goal

pub returns : goal.returns
returns c = run_finishes
