use Rattle.dateline_route.proofs.Lengths.{route_short, route_distinct}
use Rattle.dateline_route.proofs.laws.routes_are_short.Goals as goal

pub returns : goal.returns
returns c = record { length = route_short; distinct = route_distinct }
