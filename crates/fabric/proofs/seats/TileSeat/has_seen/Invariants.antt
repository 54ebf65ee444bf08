use Rattle.std.proofs.Common.{◌≡◌, ℕ, ◌<◌, true, false, Some}
use Rattle.tile.specs.Agents.{TilePlace}
use Rattle.fabric_rule.specs.Known.{known}
use Rattle.fabric_rule.specs.Groups.{Owns}
use Rattle.fabric.proofs.seats.TileSeat.has_seen.Given as goal

-- of the tiles looked at those of the seat have seen the end, and `some` tells whether there are any
abbrev pub invariant-loop-number : goal.invariant-loop-number
invariant-loop-number g l = record {
  seen : (t : ℕ) (p : TilePlace) → t < l.number → Owns l.self.tiles t → known l.self.load l.self.run t ≡ Some p → p.processor.state.seen ≡ true;
  some : l.some ≡ true → (t : ℕ) × Owns l.self.tiles t;
  none : l.some ≡ false → (t : ℕ) → t < l.number → Owns l.self.tiles t → ⊥;
}
