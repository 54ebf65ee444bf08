use Rattle.dateline_route.proofs.Ends.{pluses}
use Rattle.dateline_route.proofs.laws.rings_of_two_tiles_go_plus.Goals as goal

pub returns : goal.returns
returns c = pluses
