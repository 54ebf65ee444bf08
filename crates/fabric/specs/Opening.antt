-- What is made where a fabric is opened.
use Rattle.std.specs.Prelude.{◌≡◌, ℕ, ◌<◌, ◌≤◌, nat_lt, ◌&&◌, Bool, false, if◌then◌else◌, List, [], ◌∷◌, length}
use Rattle.std.specs.Prelude.{slice_get, Some, Option}
use Rattle.atomic_table.specs.Seated.{TableId}
use Rattle.atomic_table.specs.declared.shared.Seat.{Seat}
use Rattle.torus.specs.Shape.{Shape, tiles_of}
use Rattle.fabric_rule.specs.Placed.{PlacedTile}
use Rattle.fabric_rule.specs.Core.{Load}
use Rattle.fabric_rule.specs.Runs.{IsAcceptedLoad}
use Rattle.fabric_rule.specs.Known.{ShowsBeginning}
use Rattle.fabric_rule.specs.View.{View}
use Rattle.fabric.specs.Key.{Rises}
use Rattle.fabric.specs.Seats.{Knowing, Placed, StandsAt}

-- whether the cuts rise strictly, above a and below n
abbrev pub rises : ℕ → List ℕ → ℕ → Bool
rises a [] n = nat_lt a n
rises a (c ∷ cs) n = if nat_lt a c then rises c cs n else false

-- whether as many seats may be dealt
abbrev pub can_deal : List ℕ → ℕ → ℕ → Bool
can_deal cuts probes n = nat_lt (length cuts) 16 && nat_lt probes 17 && rises 0 cuts n

-- as many seats may be dealt of n tiles: the cuts rise strictly within 1 to n - 1, and there are at
-- most 15 cuts and 16 probes (this project's own limits)
pub record CanDeal (cuts : List ℕ) (probes n : ℕ) : Type 0 where
  pub rise : Rises 0 cuts n
  pub few_cuts : length cuts ≤ 15
  pub few_probes : probes ≤ 16

-- what a new seat with these tiles knows: the empty run of the load
abbrev pub fresh : TableId → Load → List ℕ → Knowing
fresh z load tiles = record { table = z; load = load; run = []; tiles = tiles }

-- a freshly loaded machine in its parts: the row shows the state after no step, and so stand the
-- tiles
pub record IsFresh (load : Load) (row : List ℕ) (tiles : List PlacedTile) : Type 0 where
  pub accepted : IsAcceptedLoad load
  pub shows : ShowsBeginning load row []
  pub count : length tiles ≡ tiles_of load.shape
  pub stand : (t : ℕ) (x : PlacedTile) → slice_get tiles t ≡ Some x → StandsAt load [] t x

-- from the tile `from` on, each is in its slot, and stands as after no step
pub record Rest (load : Load) (all : List (Option PlacedTile)) (from : ℕ) : Type 0 where
  pub room : length all ≡ tiles_of load.shape
  pub here : (t : ℕ) → from ≤ t → t < tiles_of load.shape
      → (x : PlacedTile) × (slice_get all t ≡ Some (Some x)) × StandsAt load [] t x

-- a seat of the table z that knows the empty run of the load, and has these groups
pub record HasRest (z : TableId) (load : Load) (groups : List (List ℕ))
    (s : Seat (Unit {0}) View) : Type 0 where
  pub table : s.table_id ≡ z
  pub placed : Placed s
  pub loaded : s.me.0.load ≡ load
  pub run : s.me.0.run ≡ []
  pub grouped : s.me.0.groups ≡ groups

-- a load's machine has this torus, channels of this depth, and so many words
pub record IsBuilt (load : Load) (torus : Shape) (depth words : ℕ) : Type 0 where
  pub torus_is : torus ≡ load.shape
  pub depth_is : depth ≡ load.depth
  pub words_are : words ≡ length load.opening
