use Rattle.deadlock_laws.proofs.Covered.{covered_lock}
use Rattle.deadlock_laws.proofs.classes.covered_cycles_lock_up.Goals as goal

pub returns : goal.returns
returns c = covered_lock
