use Rattle.machine_core.proofs.FreshMachines.{told_after, run_alike}
use Rattle.machine_core.proofs.laws.fresh_machines_tell_their_load.Goals as goal

pub returns-clause-told : goal.returns-clause-told
returns-clause-told c = told_after

pub returns-clause-alike : goal.returns-clause-alike
returns-clause-alike c = run_alike
