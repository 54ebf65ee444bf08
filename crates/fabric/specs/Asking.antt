-- What a seat says of its tiles.
use Rattle.std.specs.Prelude.{◌≡◌, ℕ, ◌<◌, ◌≤◌, List, Some, true}
use Rattle.tile.specs.Agents.{TilePlace}
use Rattle.fabric_rule.specs.Known.{known}
use Rattle.fabric_rule.specs.Groups.{Owns}
use Rattle.fabric.specs.Seats.{Knowing}

-- a tile is the least of some that is not below a number (this project's own format)
pub record IsNextTile (tiles : List ℕ) (from t : ℕ) : Type 0 where
  pub at_least : from ≤ t
  pub owned : Owns tiles t
  pub least : (u : ℕ) → from ≤ u → u < t → Owns tiles u → ⊥

-- the seat has a tile, and the processors of all its tiles have seen that all have reported (this
-- project's own format)
pub record HasSeen (k : Knowing) : Type 0 where
  pub some : (t : ℕ) × Owns k.tiles t
  pub seen : (t : ℕ) (p : TilePlace) → Owns k.tiles t → known k.load k.run t ≡ Some p
      → p.processor.state.seen ≡ true
