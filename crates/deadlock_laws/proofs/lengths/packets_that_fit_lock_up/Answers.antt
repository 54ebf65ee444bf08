use Rattle.deadlock_laws.proofs.Finished.{jams_lock, cycles_lock}
use Rattle.deadlock_laws.proofs.lengths.packets_that_fit_lock_up.Goals as goal

pub returns : goal.returns
returns c = record { jam = jams_lock; cycle = cycles_lock }
