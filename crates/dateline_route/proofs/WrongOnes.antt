-- Wrong routes: the route that the definition gives on a ring, and those that wrong rules give.
use Rattle.std.proofs.Common.{◌≡◌, ℕ, zero, suc, ◌++◌, List, [], ◌∷◌, Bool, true, false, refl, map, if◌then◌else◌}
use Rattle.std.specs.Prelude.{nat_le, nat_lt, ◌==◌, ◌||◌}
use Rattle.std.specs.List.{flat_map, range_with_len}
use Rattle.torus.specs.Shape.{Shape, dims_of, radix_of, dateline_of, digit_of}
use Rattle.torus.specs.declared.shape.Class.TheVariants.{Request}
use Rattle.torus.specs.declared.shape.Dir.{Dir}
use Rattle.torus.specs.declared.shape.Dir.TheVariants.{Plus, Minus}
use Rattle.dateline_route.specs.declared.channel.Channel.{Channel}
use Rattle.dateline_route.specs.declared.channel.Kind.TheVariants.{Injection, Hop, Ejection}
use Rattle.dateline_route.specs.Ring.{hops_by, shorter_way, digit_after, dateline_out_of, is_crossed}
use Rattle.dateline_route.specs.Route.{with_digit, corrected, route_of}

-- the way on a ring, and the bit of hop i of it, by a rule
abbrev Way : Type 0
Way = ℕ → ℕ → ℕ → Dir

abbrev Bit : Type 0
Bit = Dir → ℕ → ℕ → ℕ → ℕ → Bool

-- a route by any rule for the way and any for the bit
module _ (way : Way) (bit : Bit) where
  abbrev hop_by : Shape → ℕ → Dir → ℕ → ℕ → Channel
  hop_by s t dir d i = record {
    tile = with_digit s t d (digit_after dir (radix_of s d) (digit_of s t d) i);
    class = Request;
    kind = Hop d dir (bit dir (radix_of s d) (dateline_of s d) (digit_of s t d) i);
  }

  abbrev hops_of : Shape → ℕ → ℕ → ℕ → Dir → List Channel
  hops_of s t dst d dir =
      map (hop_by s t dir d) (range_with_len 0 (hops_by dir (radix_of s d) (digit_of s t d) (digit_of s dst d)))

  abbrev way_from : Shape → ℕ → ℕ → ℕ → Dir
  way_from s t dst d = way (radix_of s d) (digit_of s t d) (digit_of s dst d)

  abbrev route_by : Shape → ℕ → ℕ → List Channel
  route_by s src dst =
      record { tile = src; class = Request; kind = Injection }
      ∷ flat_map (λ d. hops_of s (corrected s src dst d) dst d (way_from s (corrected s src dst d) dst d)) (range_with_len 0 (dims_of s))
      ++ record { tile = dst; class = Request; kind = Ejection } ∷ []

-- by the rules of the definition it is the definition's
route_by_its_rules : (s : Shape) (src dst : ℕ) → route_by shorter_way is_crossed s src dst ≡ route_of s src dst Request
route_by_its_rules s src dst = refl

-- a ring of four tiles, whose dateline hops are those between tiles 3 and 0
abbrev ring : Shape
ring = record { radices = 4 ∷ []; datelines = 3 ∷ [] }

-- a route on it whose hops have these tiles, directions and bits
abbrev hop : ℕ → Dir → Bool → Channel
hop t dir bit = record { tile = t; class = Request; kind = Hop 0 dir bit }

abbrev route : ℕ → ℕ → List Channel → List Channel
route src dst hops =
    record { tile = src; class = Request; kind = Injection } ∷ hops
    ++ record { tile = dst; class = Request; kind = Ejection } ∷ []

-- wrong: the longer way
abbrev longer_way : Way
longer_way k x y = if nat_le (hops_by Plus k x y) (hops_by Minus k x y) then Minus else Plus

one_hop : route_of ring 0 1 Request ≡ route 0 1 (hop 0 Plus false ∷ [])
one_hop = refl

three_hops : route_by longer_way is_crossed ring 0 1 ≡ route 0 1 (hop 0 Minus true ∷ hop 3 Minus true ∷ hop 2 Minus true ∷ [])
three_hops = refl

-- wrong: a tie goes minus
abbrev tie_goes_minus : Way
tie_goes_minus k x y = if nat_lt (hops_by Plus k x y) (hops_by Minus k x y) then Plus else Minus

a_tie : route_of ring 1 3 Request ≡ route 1 3 (hop 1 Plus false ∷ hop 2 Plus false ∷ [])
a_tie = refl

a_tie_minus : route_by tie_goes_minus is_crossed ring 1 3 ≡ route 1 3 (hop 1 Minus false ∷ hop 0 Minus true ∷ [])
a_tie_minus = refl

-- wrong: always plus
abbrev plus_alone : Way
plus_alone k x y = Plus

minus : route_of ring 3 2 Request ≡ route 3 2 (hop 3 Minus false ∷ [])
minus = refl

plus_all_round : route_by plus_alone is_crossed ring 3 2 ≡ route 3 2 (hop 3 Plus true ∷ hop 0 Plus true ∷ hop 1 Plus true ∷ [])
plus_all_round = refl

-- wrong: bit 0 again behind the dateline hop; bit 0 on the dateline hop itself; bit 1 from the first hop on
abbrev at_the_dateline_alone : Bit
at_the_dateline_alone dir k z x i = digit_after dir k x i == dateline_out_of dir k z

abbrev behind_the_dateline : Bit
behind_the_dateline dir k z x zero = false
behind_the_dateline dir k z x (suc i) = is_crossed dir k z x i

abbrev from_the_first : Bit
from_the_first dir k z x i = true

-- over the dateline hop and one hop on
over_the_dateline : route_of ring 3 1 Request ≡ route 3 1 (hop 3 Plus true ∷ hop 0 Plus true ∷ [])
over_the_dateline = refl

bit_0_again : route_by shorter_way at_the_dateline_alone ring 3 1 ≡ route 3 1 (hop 3 Plus true ∷ hop 0 Plus false ∷ [])
bit_0_again = refl

bit_1_too_late : route_by shorter_way behind_the_dateline ring 3 1 ≡ route 3 1 (hop 3 Plus false ∷ hop 0 Plus true ∷ [])
bit_1_too_late = refl

-- before the dateline hop
before_the_dateline : route_of ring 1 2 Request ≡ route 1 2 (hop 1 Plus false ∷ [])
before_the_dateline = refl

bit_1_too_early : route_by shorter_way from_the_first ring 1 2 ≡ route 1 2 (hop 1 Plus true ∷ [])
bit_1_too_early = refl

-- wrong: in both directions the dateline hop leads out of the dateline digit
abbrev out_of_one_digit : Bit
out_of_one_digit dir k z x zero = digit_after dir k x zero == z
out_of_one_digit dir k z x (suc i) = out_of_one_digit dir k z x i || (digit_after dir k x (suc i) == z)

minus_over_the_dateline : route_of ring 0 3 Request ≡ route 0 3 (hop 0 Minus true ∷ [])
minus_over_the_dateline = refl

minus_before_it_still : route_by shorter_way out_of_one_digit ring 0 3 ≡ route 0 3 (hop 0 Minus false ∷ [])
minus_before_it_still = refl
