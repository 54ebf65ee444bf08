use Rattle.std.proofs.Common.{◌+◌, ◌-◌, length}
use Rattle.network_adaptive.specs.Spread.{down}
use Rattle.network_adaptive.proofs.Spreading.{HasLooked}
use Rattle.network_adaptive.proofs.spread.spread.Given as goal

-- the channels of the list so far are looked at
abbrev pub invariant-steps : goal.invariant-steps
invariant-steps g l = HasLooked l.kinds l.choices l.base l.ways l.shut l.at l.initial.seen l.seen l.list.items

-- the flags that are down, and the channels that are still to be looked at
abbrev pub decreases-steps : goal.decreases-steps
decreases-steps g l = down l.seen + (length l.list.items - l.at)
