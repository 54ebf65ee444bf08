use Rattle.network_judge.proofs.Both.{has_jam, cycles_lock}
use Rattle.network_judge.proofs.jam_laws.cycles_lock_up.Goals as goal

pub returns : goal.returns
returns c = record { jam = has_jam; locks = cycles_lock }
