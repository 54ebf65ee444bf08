-- The rule of the shared row, and what each operation on it tells.
use Rattle.std.specs.Prelude.{◌≡◌, ◌≢◌, ℕ, true, List, ◌++◌, slice_index, Some}
use mathlib.Core.Option.{some}
use lib.ListN.{get_elem?}
use Rattle.torus.specs.Shape.{tiles_of}
use Rattle.torus.specs.declared.step.Step.{Step}
use Rattle.tile.specs.Agents.{TilePlace}
use Rattle.core_laws.specs.Core.{Load}
use Rattle.fabric_rule.specs.Known.{tile_of, known, enabled, ShowsBeginning, moves, left_by, Suits}
use Rattle.fabric_rule.specs.Told.{grown}
use Rattle.fabric_rule.specs.View.{View}
use Rattle.fabric_rule.specs.Groups.{In, Apart, Others, Named, GroupGoesOn, ToldOfGroup, with_groups, knowing}

-- what the longest run r says of one view: it goes on from the view's own, with no attempt of its
-- tiles (this project's own format)
pub record IsBegunBy (load : Load) (r : List Step) (v : View) : Type 0 where
  pub same_load : v.live ≡ true → v.load ≡ load
  pub begins : GroupGoesOn v.groups r v.run
  pub apart : Apart v.groups
  pub told : ToldOfGroup r v.groups v.told

-- The rule: one run is the longest that any seat knows. The words show the state after it, and no
-- tile is of two seats (Owicki and Gries, 1976: an assertion that each operation keeps).
pub record Kept (load : Load) (words : List ℕ) (views : List View) (r : List Step) : Type 0 where
  pub shown : ShowsBeginning load words r
  pub named : Named (tiles_of load.shape) r
  pub fits : (id : ℕ) (v : View) → get_elem? views id ≡ some v → IsBegunBy load r v
  pub apart : (i j : ℕ) (v w : View) → get_elem? views i ≡ some v → get_elem? views j ≡ some w
      → i ≢ j
      → (t : ℕ) → In v.groups t → In w.groups t → ⊥
  pub known : (id : ℕ) × (v : View) × (get_elem? views id ≡ some v) × (v.run ≡ r)

-- what an attempt at a tile in place p, that found n, makes of a view: the seat has seen all steps
-- of others so far; then, where the attempt is enabled, it was made (this project's own format)
pub record Attempted (attempt : Step) (p : TilePlace) (v : View) (n : ℕ) (w : View) : Type 0 where
  pub between : List Step
  pub others : Others v.groups between
  pub enabled_there : enabled v.load (v.run ++ between) attempt ≡ moves p attempt n
  pub view : w ≡ knowing v (grown (moves p attempt n) (v.run ++ between) attempt)
  pub tile : known w.load w.run (tile_of attempt) ≡ Some (left_by p attempt n)
  pub suits : Suits v.load p attempt n

-- what a look at the word i tells: all steps so far were seen, and the row shows the state after
-- them (this project's own format)
pub record Looked (i : ℕ) (v : View) (n : ℕ) (w : View) : Type 0 where
  pub between : List Step
  pub others : Others v.groups between
  pub view : w ≡ knowing v (v.run ++ between)
  pub row : (words : List ℕ) × ShowsBeginning w.load words w.run × (n ≡ slice_index words i)

-- what a look tells a seat that was told of other runs: the run goes on from each of them. The seat
-- then has these groups (this project's own format)
pub record Learned (v : View) (groups : List (List ℕ)) (w : View) : Type 0 where
  pub from : GroupGoesOn v.groups w.run v.run
  pub view : w ≡ with_groups (knowing v w.run) groups
  pub told : ToldOfGroup w.run v.groups v.told
