use Rattle.dateline_route.proofs.Ends.{chosen}
use Rattle.dateline_route.proofs.laws.routers_choose_the_route.Goals as goal

pub returns : goal.returns
returns c = chosen
