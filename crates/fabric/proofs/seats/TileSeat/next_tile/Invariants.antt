use Rattle.std.proofs.Common.{ℕ, ◌<◌, ◌≤◌}
use Rattle.fabric_rule.specs.Groups.{Owns}
use Rattle.fabric.proofs.seats.TileSeat.next_tile.Given as goal

-- none of the seat's tiles is among those looked at
abbrev pub invariant-loop-number : goal.invariant-loop-number
invariant-loop-number g l = (u : ℕ) → l.from ≤ u → u < l.number → Owns l.self.tiles u → ⊥
