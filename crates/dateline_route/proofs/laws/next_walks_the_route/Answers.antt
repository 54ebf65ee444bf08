use Rattle.dateline_route.proofs.Walks.{walk_is_route}
use Rattle.dateline_route.proofs.laws.next_walks_the_route.Goals as goal

pub returns : goal.returns
returns c = walk_is_route
