-- What callers see of a seat and of the fabric.
use Rattle.std.specs.Prelude.{◌≡◌, ◌⊎◌, ℕ, ◌<◌, true, false, List, [], ◌∷◌, ◌++◌, length, slice_get, Option, None}
use Rattle.std.specs.Prelude.{Some, MatchBool}
use Rattle.atomic_table.specs.Seated.{TableId}
use Rattle.atomic_table.specs.declared.shared.Seat.{Seat}
use Rattle.torus.specs.Shape.{tiles_of}
use Rattle.torus.specs.declared.step.Step.{Step}
use Rattle.fabric_rule.specs.Room.{home_room}
use Rattle.fabric_rule.specs.Placed.{PlacedTile}
use Rattle.fabric_rule.specs.Core.{Load}
use Rattle.fabric_rule.specs.Runs.{IsAcceptedLoad}
use Rattle.fabric_rule.specs.Known.{tile_of, known, enabled, row_length}
use Rattle.fabric_rule.specs.View.{View}
use Rattle.fabric_rule.specs.Groups.{Owns, Others, GroupGoesOn, Extends, first_group}
use Rattle.fabric.specs.Turns.{is_ready, has_choice}

-- what a seat knows: which fabric it is of, what was loaded, a run of it, and which tiles are its
-- own
pub record Knowing : Type 0 where
  pub table : TableId
  pub load : Load
  pub run : List Step
  pub tiles : List ℕ

abbrev pub seat_knows : Seat (Unit {0}) View → Knowing
seat_knows s = record {
  table = s.table_id;
  load = s.me.0.load;
  run = s.me.0.run;
  tiles = first_group s.me.0.groups;
}

abbrev pub with_run : Knowing → List Step → Knowing
with_run k run = record { table = k.table; load = k.load; run = run; tiles = k.tiles }

-- a tile in code stands as after a run, and its bank has as much room as the scripts have
-- operations for it
pub record StandsAt (load : Load) (run : List Step) (t : ℕ) (x : PlacedTile) : Type 0 where
  pub place : known load run t ≡ Some x.place
  pub room : x.room ≡ home_room (tiles_of load.shape) t load.scripts

-- the tiles in a seat's slots are its own, and stand as after the run that it knows
pub record Tied (slots : List (Option PlacedTile)) (load : Load) (run : List Step)
    (tiles : List ℕ) : Type 0 where
  pub room : length slots ≡ tiles_of load.shape
  pub own : (t : ℕ) (x : PlacedTile) → slice_get slots t ≡ Some (Some x)
      → Owns tiles t × StandsAt load run t x
  pub all : (t : ℕ) → Owns tiles t → (x : PlacedTile) × (slice_get slots t ≡ Some (Some x))

-- a seat that is still there, and was told of nothing that it hasn't learned
pub record Placed (s : Seat (Unit {0}) View) : Type 0 where
  pub live : s.me.0.live ≡ true
  pub quiet : s.me.0.told ≡ []
  pub no_slot : s.me.1 ≡ []
  pub words : s.table_id.words ≡ row_length s.me.0.load
  pub accepted : IsAcceptedLoad s.me.0.load

-- a seat that has tiles, in one group
pub record Seated (slots : List (Option PlacedTile)) (s : Seat (Unit {0}) View) : Type 0 where
  pub placed : Placed s
  pub one_group : s.me.0.groups ≡ first_group s.me.0.groups ∷ []
  pub tied : Tied slots s.me.0.load s.me.0.run (first_group s.me.0.groups)

-- a seat that owns no tile
pub record Looking (s : Seat (Unit {0}) View) : Type 0 where
  pub placed : Placed s
  pub none_owned : s.me.0.groups ≡ []

-- after steps of others the step was made, enabled there
abbrev pub MovesSeats : Knowing → Step → Knowing → Type 0
MovesSeats v c w = (between : List Step) × Others (v.tiles ∷ []) between
    × (enabled v.load (v.run ++ between) c ≡ true)
    × (w ≡ with_run v ((v.run ++ between) ++ c ∷ []))

-- steps of others were seen
abbrev pub Grows : Knowing → Knowing → Type 0
Grows v w = (between : List Step) × Others (v.tiles ∷ []) between
    × (w ≡ with_run v (v.run ++ between))

-- where the agent's own condition failed nothing changed; else steps of others were seen, and then
-- the step is not enabled
abbrev pub Idles : Knowing → Step → Knowing → Type 0
Idles v c w = MatchBool (is_ready v.load v.run c) (Grows v w × (enabled w.load w.run c ≡ false))
    (w ≡ v)

-- the step is of no agent of the seat, or of one without that choice
abbrev pub IsNotMine : Knowing → Step → Type 0
IsNotMine v c = (Owns v.tiles (tile_of c) → ⊥) ⊎ (has_choice v.load.shape c ≡ false)

-- which fabric it is, and what was loaded
pub record Origin : Type 0 where
  pub table : TableId
  pub load : Load

-- the seat is of this fabric
abbrev pub IsSeatOf : Origin → Knowing → Type 0
IsSeatOf f k = (k.table ≡ f.table) × (k.load ≡ f.load)

-- v came to know all that u knew, and w is what it knows then
abbrev pub Learns : Knowing → Knowing → Knowing → Type 0
Learns v u w = (w ≡ with_run v w.run) × GroupGoesOn (v.tiles ∷ []) w.run v.run × Extends w.run u.run

-- both in one: the tiles of both, and a run that goes on from both
abbrev pub JoinsTo : Knowing → Knowing → Knowing → Type 0
JoinsTo v u w = (w.table ≡ v.table) × (w.load ≡ v.load) × (w.tiles ≡ v.tiles ++ u.tiles)
    × GroupGoesOn (v.tiles ∷ []) w.run v.run × GroupGoesOn (u.tiles ∷ []) w.run u.run

-- every tile is the seat's
abbrev pub IsWhole : Knowing → Type 0
IsWhole k = (t : ℕ) → t < tiles_of k.load.shape → Owns k.tiles t

-- the slot of the second where it has a tile
abbrev pub mix_at : {T : Type 0} → Option (Option T) → Option (Option T) → Option (Option T)
mix_at p None = p
mix_at p (Some None) = p
mix_at p (Some (Some y)) = Some (Some y)
