use Rattle.core_laws.proofs.Beginnings.{run_begins}
use Rattle.core_laws.proofs.machine_laws.first_steps_begin_the_run.Goals as goal

pub returns : goal.returns
returns c = run_begins
