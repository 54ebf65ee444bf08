use Rattle.deadlock_laws.proofs.Locked.{jams_lock, cycles_lock}
use Rattle.deadlock_laws.proofs.classes.composed_cycles_lock_up.Goals as goal

pub returns : goal.returns
returns c = record { jam = jams_lock; cycle = cycles_lock }
