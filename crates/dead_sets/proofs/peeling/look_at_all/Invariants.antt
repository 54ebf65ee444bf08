use Rattle.std.proofs.Common.{◌+◌, ◌-◌, length}
use Rattle.dead_sets.specs.Peeling.{IsPeeling, AreClosedBy, not_zero}
use Rattle.dead_sets.proofs.peeling.look_at_all.Given as goal

-- the channels so far are looked at
abbrev pub invariant-places : goal.invariant-places
invariant-places g l = record {
  state : IsPeeling l.count l.at l.chains.edges.now l.place l.opened l.left l.order.items;
  closed : AreClosedBy l.count l.at l.chains.edges.now l.place l.opened l.order.items;
}

-- the channels that are left, and those that are still to be looked at
abbrev pub decreases-places : goal.decreases-places
decreases-places g l = not_zero l.left + length l.order.items - l.place
