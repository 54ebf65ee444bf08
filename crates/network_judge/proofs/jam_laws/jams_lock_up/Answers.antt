use Rattle.network_judge.proofs.Jammed.{jams_lock}
use Rattle.network_judge.proofs.jam_laws.jams_lock_up.Goals as goal

pub returns : goal.returns
returns c = jams_lock
