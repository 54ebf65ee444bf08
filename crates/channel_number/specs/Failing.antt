-- The first failing case, as it is looked for: in a route, from a source, in a class.
use Rattle.std.specs.Prelude.{◌≡◌, ℕ, ◌+◌, ◌<◌, ◌≤◌, List, length, slice_index}
use Rattle.std.specs.List.Sorted.{IsStrictlyIncreasing}
use Rattle.torus.specs.Shape.{Shape, tiles_of}
use Rattle.torus.specs.declared.shape.Class.{Class}
use Rattle.channel_number.specs.Rising.{along}
use Rattle.channel_number.specs.declared.rising.NotRising.{NotRising}

-- the first place after which a list of numbers does not rise (this project's own format)
pub record IsFirstFall (xs : List ℕ) (hop : ℕ) : Type 0 where
  pub inside : hop + 1 < length xs
  pub falls : slice_index xs (hop + 1) ≤ slice_index xs hop
  pub before : (k : ℕ) → k < hop → slice_index xs k < slice_index xs (k + 1)

-- from this source the numbers rise to all destinations below n (this project's own format)
abbrev pub RisesTo : Shape → List ℕ → Class → ℕ → ℕ → Type 0
RisesTo s numbers class src n =
    (dst : ℕ) → dst < n → IsStrictlyIncreasing (along s numbers class src dst)

-- they rise from all sources below n (this project's own format)
abbrev pub RisesFrom : Shape → List ℕ → Class → ℕ → Type 0
RisesFrom s numbers class n = (src : ℕ) → src < n → RisesTo s numbers class src (tiles_of s)

-- the first failing case of a class from a source (this project's own format)
pub record IsFirstFrom (s : Shape) (numbers : List ℕ) (class : Class) (src : ℕ)
    (e : NotRising) : Type 0 where
  pub class_is : e.class ≡ class
  pub src_is : e.src ≡ src
  pub dst : e.dst < tiles_of s
  pub fall : IsFirstFall (along s numbers class src e.dst) e.hop
  pub before : RisesTo s numbers class src e.dst

-- the first failing case of a class (this project's own format)
pub record IsFirstIn (s : Shape) (numbers : List ℕ) (class : Class) (e : NotRising) : Type 0 where
  pub src : e.src < tiles_of s
  pub from : IsFirstFrom s numbers class e.src e
  pub before : RisesFrom s numbers class e.src
