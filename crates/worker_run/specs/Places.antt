-- The places of a seat's rounds.
use Rattle.std.specs.Prelude.{◌≡◌, ◌⊎◌, ℕ, ◌+◌, ◌*◌, ◌<◌, ◌≤◌, List}
use Rattle.fabric_rule.specs.Groups.{Owns}
use Rattle.fabric.specs.Asking.{IsNextTile}
use Rattle.worker_run.specs.declared.place.Place.{Place}

-- how many choices the agents of a tile have, whose router has so many ports (this project's own
-- format)
abbrev pub choice_count : ℕ → ℕ
choice_count ports = 9 + 3 * ports

-- the place is at a tile, and at a choice of its agents, where a router has so many ports
pub record IsPlaceOf (ports : ℕ) (p : Place) : Type 0 where
  pub tile : p.tile < 64
  pub at : p.at < choice_count ports

-- the first place of the rounds of these tiles: at the first choice of the least tile (this
-- project's own format)
abbrev pub IsFirstPlace : List ℕ → Place → Type 0
IsFirstPlace tiles p = (p.at ≡ 0) × (IsNextTile tiles 0 p.tile ⊎ ((t : ℕ) → Owns tiles t → ⊥))

-- a place follows another in the rounds of these tiles: at the next choice of its tile; after the
-- last, at the first of the next tile; and after the last tile, at the first place (this project's
-- own format)
abbrev pub ComesAfter : ℕ → List ℕ → Place → Place → Type 0
ComesAfter ports tiles p q =
    ((p.at + 1 < choice_count ports) × (q.tile ≡ p.tile) × (q.at ≡ p.at + 1))
    ⊎ ((choice_count ports ≤ p.at + 1) × (q.at ≡ 0) × IsNextTile tiles (p.tile + 1) q.tile)
    ⊎ ((choice_count ports ≤ p.at + 1) × ((t : ℕ) → p.tile < t → Owns tiles t → ⊥)
    × IsFirstPlace tiles q)

-- a pass over the tiles is over between a place and the next: that is at the first choice of a tile
-- which is no higher
abbrev pub EndsPass : Place → Place → Type 0
EndsPass p q = (q.at ≡ 0) × (q.tile ≤ p.tile)
