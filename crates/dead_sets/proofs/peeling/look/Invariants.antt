use Rattle.std.proofs.Common.{◌-◌, length}
use Rattle.dead_sets.proofs.Looking.{IsLooking}
use Rattle.dead_sets.proofs.peeling.look.Given as goal

-- the cases so far are closed
abbrev pub invariant-edges : goal.invariant-edges
invariant-edges g l = IsLooking l.count l.at l.chains.edges.now l.place l.y l.initial.left l.initial.order.items l.k l.opened l.left l.order.items

abbrev pub decreases-edges : goal.decreases-edges
decreases-edges g l = length l.chains.edges.now - l.k
