-- Numbers that rise along every route.
use Rattle.std.specs.Prelude.{◌≡◌, ℕ, ◌+◌, ◌<◌, ◌≤◌, List, length, map, slice_index}
use Rattle.std.specs.List.Sorted.{IsStrictlyIncreasing}
use Rattle.torus.specs.Shape.{Shape, tiles_of}
use Rattle.torus.specs.declared.shape.Class.{Class}
use Rattle.torus.specs.declared.shape.Class.TheVariants.{Request, Reply}
use Rattle.dateline_route.specs.Route.{route_of}
use Rattle.channel_number.specs.Order.{channel_index}
use Rattle.channel_number.specs.declared.rising.NotRising.{NotRising}

-- the numbers of the channels of a route, where `numbers` has those of all channels in channel
-- order (Dally and Towles, chapter 14)
abbrev pub along : Shape → List ℕ → Class → ℕ → ℕ → List ℕ
along s numbers class src dst =
    map (λ x. slice_index numbers (channel_index s x)) (route_of s src dst class)

-- along every route, of both classes and between all pairs of tiles, each next number is greater
-- (Dally and Towles, chapter 14)
abbrev pub IsRising : Shape → List ℕ → Type 0
IsRising s numbers = (class : Class) (src dst : ℕ) → src < tiles_of s → dst < tiles_of s
    → IsStrictlyIncreasing (along s numbers class src dst)

-- a case where the next number is not greater: the numbers at hop and hop + 1 of a route (Dally and
-- Towles, chapter 14)
pub record Fails (s : Shape) (numbers : List ℕ) (e : NotRising) : Type 0 where
  pub src : e.src < tiles_of s
  pub dst : e.dst < tiles_of s
  pub hop : e.hop + 1 < length (along s numbers e.class e.src e.dst)
  pub falls : slice_index (along s numbers e.class e.src e.dst) (e.hop + 1)
      ≤ slice_index (along s numbers e.class e.src e.dst) e.hop

-- the first such case, in the order of class, source, destination and hop: at each earlier one the
-- numbers rise (this project's own format)
pub record IsFirstFailing (s : Shape) (numbers : List ℕ) (e : NotRising) : Type 0 where
  pub fails : Fails s numbers e
  pub hops_before : (hop : ℕ) → hop < e.hop
      → slice_index (along s numbers e.class e.src e.dst) hop
      < slice_index (along s numbers e.class e.src e.dst) (hop + 1)
  pub destinations_before : (dst : ℕ) → dst < e.dst
      → IsStrictlyIncreasing (along s numbers e.class e.src dst)
  pub sources_before : (src dst : ℕ) → src < e.src → dst < tiles_of s
      → IsStrictlyIncreasing (along s numbers e.class src dst)
  pub classes_before : e.class ≡ Reply → (src dst : ℕ) → src < tiles_of s → dst < tiles_of s
      → IsStrictlyIncreasing (along s numbers Request src dst)
