use Rattle.network_adaptive.proofs.Exactly.{judged}
use Rattle.network_adaptive.proofs.exact_laws.each_network_is_judged.Goals as goal

pub returns : goal.returns
returns c = judged
