use Rattle.network_run.proofs.Locking.{moves_lock}
use Rattle.network_run.proofs.laws.locking_moves_are_lock_ups.Goals as goal

pub returns : goal.returns
returns c = moves_lock
