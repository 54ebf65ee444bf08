use Rattle.network_judge.proofs.Both.{never}
use Rattle.network_judge.proofs.jam_laws.rising_networks_never_lock_up.Goals as goal

pub returns : goal.returns
returns c = never
