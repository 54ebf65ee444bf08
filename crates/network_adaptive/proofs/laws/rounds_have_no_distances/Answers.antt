use Rattle.network_adaptive.proofs.Travelled.{no_distances}
use Rattle.network_adaptive.proofs.laws.rounds_have_no_distances.Goals as goal

pub returns : goal.returns
returns c = no_distances
