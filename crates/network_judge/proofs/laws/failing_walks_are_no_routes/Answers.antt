use Rattle.network_judge.proofs.Failing.{no_way}
use Rattle.network_judge.proofs.laws.failing_walks_are_no_routes.Goals as goal

pub returns : goal.returns
returns c = no_way
