use Rattle.network_machine.proofs.Running.{locks}
use Rattle.network_machine.proofs.laws.locked_runs_are_lock_ups.Goals as goal

pub returns : goal.returns
returns c = locks
