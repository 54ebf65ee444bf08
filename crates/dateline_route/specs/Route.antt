-- Whole routes, each as one list of channels.
use Rattle.std.specs.Prelude.{ℕ, ◌+◌, ◌-◌, ◌*◌, zero, suc, List, [], ◌∷◌, ◌++◌, take, map}
use Rattle.std.specs.List.{flat_map, range_with_len}
use Rattle.torus.specs.Shape.{Shape, product, dims_of, radix_of, dateline_of, digit_of}
use Rattle.torus.specs.declared.shape.Class.{Class}
use Rattle.torus.specs.declared.shape.Dir.{Dir}
use Rattle.dateline_route.specs.declared.channel.Channel.{Channel}
use Rattle.dateline_route.specs.declared.channel.Kind.TheVariants.{Injection, Hop, Ejection}
use Rattle.dateline_route.specs.Ring.{hops_by, shorter_way, digit_after, is_crossed}

-- tile t with digit y in dimension d in place of its own (Dally and Towles, chapter 5)
abbrev pub with_digit : Shape → ℕ → ℕ → ℕ → ℕ
with_digit s t d y = (t - digit_of s t d * product (take d s.radices))
    + y * product (take d s.radices)

-- the tile that has the destination's digits in the dimensions below d, and the source's in the
-- others (Dally and Towles, chapter 8: dimension-order routing)
abbrev pub corrected : Shape → ℕ → ℕ → ℕ → ℕ
corrected s src dst zero = src
corrected s src dst (suc d) = with_digit s (corrected s src dst d) d (digit_of s dst d)

-- the direction of the hops in dimension d from tile t to the destination's digit: all one way, the
-- shorter (Dally and Towles, chapter 8)
abbrev pub way_in : Shape → ℕ → ℕ → ℕ → Dir
way_in s t dst d = shorter_way (radix_of s d) (digit_of s t d) (digit_of s dst d)

-- how many hops those are: the least number (Dally and Towles, chapter 8)
abbrev pub hops_in : Shape → ℕ → ℕ → ℕ → ℕ
hops_in s t dst d = hops_by (way_in s t dst d) (radix_of s d) (digit_of s t d) (digit_of s dst d)

-- hop i, from 0, of those from tile t in dimension d:
-- out of the tile that i hops lead to; on bit 1 exactly if the dateline hop is it or comes before
-- it (Dally and Towles, chapters 8 and 14)
abbrev pub hop_of : Shape → ℕ → Dir → ℕ → Class → ℕ → Channel
hop_of s t dir d class i = record {
  tile = with_digit s t d (digit_after dir (radix_of s d) (digit_of s t d) i);
  class = class;
  kind = Hop d dir (is_crossed dir (radix_of s d) (dateline_of s d) (digit_of s t d) i);
}

-- the hops that bring digit d of tile t to the destination's (Dally and Towles, chapter 8)
abbrev pub dimension_hops : Shape → ℕ → ℕ → Class → ℕ → List Channel
dimension_hops s t dst class d =
    map (hop_of s t (way_in s t dst d) d class) (range_with_len 0 (hops_in s t dst d))

-- the hops in the dimensions below n, in rising order (Dally and Towles, chapter 8: dimension-order
-- routing)
abbrev pub hops_below : Shape → ℕ → ℕ → Class → ℕ → List Channel
hops_below s src dst class n =
    flat_map (λ d. dimension_hops s (corrected s src dst d) dst class d) (range_with_len 0 n)

-- the route: the source's injection, the hops, the destination's ejection (Dally and Towles,
-- chapters 8 and 14)
abbrev pub route_of : Shape → ℕ → ℕ → Class → List Channel
route_of s src dst class =
    record { tile = src; class = class; kind = Injection }
    ∷ hops_below s src dst class (dims_of s)
    ++ record { tile = dst; class = class; kind = Ejection } ∷ []
