use Rattle.network_judge.proofs.Exactly.{network_arrives}
use Rattle.network_judge.proofs.laws.networks_have_routes.Goals as goal

pub returns : goal.returns
returns c = network_arrives
