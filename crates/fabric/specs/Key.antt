-- What is fixed when the table is made: what is loaded, and how its tiles are dealt.
use Rattle.std.specs.Prelude.{ℕ, zero, suc, ◌-◌, ◌<◌, List, [], ◌∷◌, true}
use Rattle.torus.specs.Shape.{tiles_of}
use Rattle.torus.specs.declared.step.Step.{Step}
use Rattle.torus.specs.declared.step.Choice.TheVariants.{Send}
use Rattle.tile.specs.Agents.{TilePlace}
use Rattle.tile.specs.Beginning.{new_tile}
use Rattle.fabric_rule.specs.Core.{Load, design_of, first_tile}
use Rattle.fabric_rule.specs.View.{View, no_load}

-- what is loaded, and at which tiles the tiles are cut into ranges (this project's own format)
pub record Opening : Type 0 where
  pub load : Load
  pub cuts : List ℕ

-- k numbers from a on
abbrev pub count_up : ℕ → ℕ → List ℕ
count_up a zero = []
count_up a (suc k) = a ∷ count_up (suc a) k

-- the tiles from a on, below n, cut at these numbers
abbrev pub ranges : ℕ → List ℕ → ℕ → List (List ℕ)
ranges a [] n = count_up a (n - a) ∷ []
ranges a (c ∷ cs) n = count_up a (c - a) ∷ ranges c cs n

-- the cuts rise strictly, above a and below n
abbrev pub Rises : ℕ → List ℕ → ℕ → Type 0
Rises a [] n = a < n
Rises a (c ∷ cs) n = (a < c) × Rises c cs n

-- the first seat knows the empty run, and has all tiles
abbrev pub first_view : Opening → View
first_view k = record {
  live = true;
  load = k.load;
  run = [];
  groups = ranges 0 k.cuts (tiles_of k.load.shape);
  told = [];
}

-- stands for a step, and for a tile in its place, where nothing was picked
abbrev pub no_step : Step
no_step = record { agent = 0; choice = Send }

abbrev pub no_place : TilePlace
no_place = new_tile (design_of no_load) 0 (first_tile 0 0 [])

-- nothing loaded and dealt
abbrev pub no_opening : Opening
no_opening = record { load = no_load; cuts = [] }
