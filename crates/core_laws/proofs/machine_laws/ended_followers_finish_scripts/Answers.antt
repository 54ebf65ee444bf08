use Rattle.core_laws.proofs.Machines.{finished_of_machine}
use Rattle.core_laws.proofs.machine_laws.ended_followers_finish_scripts.Goals as goal

pub returns : goal.returns
returns c = finished_of_machine
