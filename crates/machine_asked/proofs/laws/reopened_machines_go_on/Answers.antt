use Rattle.machine_asked.proofs.OneMemory.{goes_on}
use Rattle.machine_asked.proofs.laws.reopened_machines_go_on.Goals as goal

pub returns : goal.returns
returns c = goes_on
