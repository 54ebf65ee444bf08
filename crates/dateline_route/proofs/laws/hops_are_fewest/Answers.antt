use Rattle.dateline_route.proofs.Rings.{digit_after-zero, after_next, way_leads, way_least}
use Rattle.dateline_route.proofs.laws.hops_are_fewest.Goals as goal

pub returns : goal.returns
returns c = record { first = digit_after-zero; next = after_next; leads = way_leads; least = way_least }
