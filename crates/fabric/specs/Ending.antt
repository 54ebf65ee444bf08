-- What a run shows at its end, and what callers see of it.
use Rattle.std.specs.Prelude.{◌≡◌, ℕ, ◌*◌, ◌<◌, List, [], ◌∷◌, length, Option, Some, None, Bool, true, slice_get}
use mathlib.Core.Option.{some}
use lib.ListN.{get_elem?}
use Rattle.torus.specs.Shape.{Shape, tiles_of}
use Rattle.torus.specs.declared.step.Step.{Step}
use Rattle.channel_number.specs.Order.{channel_count}
use Rattle.one_order.specs.Observed.{Observed}
use Rattle.fabric_rule.specs.Placed.{PlacedTile}
use Rattle.one_order.specs.Following.{is_finished}
use Rattle.fabric_rule.specs.Core.{Load, after, show}
use Rattle.fabric_rule.specs.Runs.{IsAcceptedLoad}
use Rattle.fabric_rule.specs.Known.{ShowsBeginning}
use Rattle.fabric_rule.specs.View.{View}
use Rattle.fabric_rule.specs.Groups.{Extends}
use Rattle.fabric_rule.specs.Rule.{Kept}
use Rattle.fabric.specs.Seats.{Knowing, StandsAt}

-- what was loaded, and the run that has ended (this project's own format)
pub record Ended : Type 0 where
  pub load : Load
  pub run : List Step

-- of a view, what was loaded and the run
abbrev pub ended : View → Ended
ended v = record { load = v.load; run = v.run }

-- No seat's run exceeds the one that k knows: wherever the rule of the row is kept, and the view of
-- k is among the views of all seats, every seat's run is a beginning of it. That the rule is kept
-- between any two operations on the row is what its table has proved.
abbrev pub IsLongest : Knowing → Type 0
IsLongest k = (words : List ℕ) (views : List View) (r : List Step) (id other : ℕ) (v u : View)
    → Kept k.load words views r
    → get_elem? views id ≡ some v → v.run ≡ k.run → v.groups ≡ k.tiles ∷ []
    → get_elem? views other ≡ some u
    → Extends k.run u.run

-- a view as a seat that knows k has it
abbrev pub IsViewOf : Knowing → View → Type 0
IsViewOf k v = (v.load ≡ k.load) × (v.run ≡ k.run) × (v.groups ≡ k.tiles ∷ [])

-- There are words and views of which the rule of the row is kept, with the run that k knows as the
-- longest: the view of k is among the views, and each view's run is a beginning of its run.
pub record WasLongest (k : Knowing) : Type 0 where
  pub words : List ℕ
  pub views : List View
  pub kept : Kept k.load words views k.run
  pub own : (id : ℕ) × (v : View) × (get_elem? views id ≡ some v) × IsViewOf k v
  pub longest : (id : ℕ) (u : View) → get_elem? views id ≡ some u → Extends k.run u.run

-- what is shown after a run: operations issued, answers, entries of the banks, and the words by
-- address
abbrev pub shown_after : Load → List Step → Observed
shown_after load run = show (length load.opening) (after load run)

-- each slot has its tile, as it stands after the run (this project's own format)
pub record HasAll (slots : List (Option PlacedTile)) (load : Load) (run : List Step) : Type 0 where
  pub room : length slots ≡ tiles_of load.shape
  pub each : (t : ℕ) → t < tiles_of load.shape
      → (x : PlacedTile) × (slice_get slots t ≡ Some (Some x)) × StandsAt load run t x

-- whether the script of a slot's tile is finished; an empty slot has none that isn't
abbrev pub slot_finished : Option PlacedTile → Bool
slot_finished None = true
slot_finished (Some x) = is_finished x.place.processor.state.operations.following

-- what is kept at the end: all tiles, the row, where the words of the memory begin in it, the
-- torus, and the opening words (this project's own format)
pub record IsEnd (last : Ended) (slots : List (Option PlacedTile)) (words : List ℕ) (start : ℕ)
    (shape : Shape) (first : List ℕ) : Type 0 where
  pub accepted : IsAcceptedLoad last.load
  pub tiles : HasAll slots last.load last.run
  pub row : ShowsBeginning last.load words last.run
  pub base : start ≡ channel_count last.load.shape * last.load.depth
  pub torus : shape ≡ last.load.shape
  pub opening : first ≡ last.load.opening
