-- The numbers rise along every route.
use Rattle.std.proofs.Common.{◌≡◌, ℕ, ◌+◌, ◌*◌, ◌<◌, suc, List, [], ◌∷◌, length, map, take, refl, sym, ◌∙◌, ap, subst, arith}
use Rattle.std.specs.Prelude.{All, sum, slice_index, slice_index_or}
use Rattle.std.proofs.lemmas.Grind.{common_steps}
use Rattle.std.specs.List.Sorted.{IsStrictlyIncreasing}
use Rattle.torus.specs.Shape.{Shape, IsAccepted, dims_of, tiles_of, radix_of, dateline_of, digit_of}
use Rattle.torus.specs.declared.shape.Class.{Class}
use Rattle.torus.specs.declared.shape.Dir.{Dir}
use Rattle.torus.proofs.Hops.{digit_below}
use Rattle.dateline_route.specs.declared.channel.Channel.{Channel}
use Rattle.dateline_route.specs.Ring.{is_crossed}
use Rattle.dateline_route.specs.Route.{corrected, hop_of, hops_in, way_in, route_of}
use Rattle.dateline_route.specs.Walk.{IsChannel}
use Rattle.dateline_route.proofs.Climbs.{RisesIn, RisesAlong, climbs_route, climbs_increase}
use Rattle.dateline_route.proofs.Ends.{channels}
use Rattle.dateline_route.proofs.Dimensions.{IsAfter, few_hops}
use Rattle.dateline_route.proofs.Walks.{IsTrip, InDimension, in_dimension, tile_at, after_at, ejection}
use Rattle.channel_number.specs.Order.{channel_index}
use Rattle.channel_number.specs.Number.{number_of, first_number, rank_of, IsNumbering}
use Rattle.channel_number.specs.Rising.{along, IsRising}
use Rattle.channel_number.proofs.Ranks.{rank_at, rank_below, rank_rises}

-- one radix more
pub sum_more : (ks : List ℕ) (d : ℕ) → d < length ks → sum (take (d + 1) ks) ≡ sum (take d ks) + slice_index ks d
sum_more ks d low = grind (arith, common_steps)

-- where the numbers of dimension d begin
abbrev pub begin_at : Shape → Class → ℕ → ℕ
begin_at s class d = first_number s class + 1 + 2 * sum (take d s.radices)

number-hop : (s : Shape) (src dst d i : ℕ) (dir : Dir) (class : Class) → InDimension s src dst d (corrected s src dst d) dir → i < radix_of s d →
    number_of s (hop_of s (corrected s src dst d) dir d class i)
    ≡ begin_at s class d + rank_at dir (radix_of s d) (dateline_of s d) (digit_of s (corrected s src dst d) d) i
number-hop s src dst d i dir class r few =
    let t : ℕ = corrected s src dst d in
    let k : ℕ = radix_of s d in
    let a : IsAfter s t dir d i (tile_at s t dir d i) = after_at s src dst d t dir i r (omega arith) in
    ap (λ y. begin_at s class d + rank_of dir k (dateline_of s d) y (is_crossed dir k (dateline_of s d) (digit_of s t d) i)) a.moved.moved

hops_rise : (s : Shape) (src dst : ℕ) (class : Class) (d : ℕ) → IsTrip s src dst → d < dims_of s → RisesIn s src dst class (number_of s) (begin_at s class) d
hops_rise s src dst class d trip low =
    let t : ℕ = corrected s src dst d in
    let k : ℕ = radix_of s d in
    let x : ℕ = digit_of s t d in
    let z : ℕ = dateline_of s d in
    let dir : Dir = way_in s t dst d in
    let r : InDimension s src dst d t dir = in_dimension s src dst d trip low in
    let here : x < k = digit_below s trip.accepted t d low in
    let line : z < k = trip.accepted.dateline d low in
    let few : hops_in s t dst d < k =
    (few_hops dir k x (digit_of s dst d) r.way here (digit_below s trip.accepted dst d low) (trip.accepted.radix_high d low)).1 in
    let is : (i : ℕ) → i < k → number_of s (hop_of s t dir d class i) ≡ begin_at s class d + rank_at dir k z x i =
    λ i less. number-hop s src dst d i dir class r less in
    let wide : begin_at s class (d + 1) ≡ begin_at s class d + (k + k) = omega (arith, sum_more s.radices d low) in
    record {
      first = omega arith;
      low = λ i less. omega (arith, is i (omega arith));
      high = λ i less. omega (arith, is i (omega arith), rank_below dir k z x i line here (omega arith));
      up = λ i less. omega (arith, is i (omega arith), is (i + 1) (omega arith), rank_rises dir k z x i line here (omega arith));
    }

take_all : (ks : List ℕ) → take (length ks) ks ≡ ks
take_all [] = refl
take_all (k ∷ ks) = ap (λ ls. k ∷ ls) (take_all ks)

pub numbers_rise : (s : Shape) → IsAccepted s → (src dst : ℕ) → src < tiles_of s → dst < tiles_of s → (class : Class)
    → IsStrictlyIncreasing (map (number_of s) (route_of s src dst class))
numbers_rise s h src dst from to class =
    let trip : IsTrip s src dst = record { accepted = h; from = from; to = to } in
    let whole : sum (take (dims_of s) s.radices) ≡ sum s.radices = ap sum (take_all s.radices) in
    let rises : RisesAlong s src dst class (number_of s) (begin_at s class) = record {
      first = omega arith;
      hops = λ d low. hops_rise s src dst class d trip low;
      last = omega arith;
    } in
    climbs_increase (number_of s) 0 (route_of s src dst class) (number_of s (ejection dst class) + 1)
    (climbs_route s src dst class (number_of s) (begin_at s class) rises)

-- lists of numbers that agree on some channels
map_same : (f g : Channel → ℕ) (xs : List Channel) → ((k : ℕ) (d : Channel) → k < length xs → f (slice_index_or xs k d) ≡ g (slice_index_or xs k d))
    → map f xs ≡ map g xs
map_same f g [] same = refl
map_same f g (x ∷ xs) same =
    ap (λ n. n ∷ map f xs) (same 0 x (omega arith)) ∙ ap (λ ns. g x ∷ ns) (map_same f g xs (λ k d low. same (suc k) d (omega arith)))

-- and so do those of a list that has them
pub numbering_rises : (s : Shape) → IsAccepted s → (numbers : List ℕ) → IsNumbering s numbers → IsRising s numbers
numbering_rises s h numbers has class src dst from to =
    let route : List Channel = route_of s src dst class in
    let all : All (IsChannel s) route = channels s h src dst from to class in
    let same : along s numbers class src dst ≡ map (number_of s) route =
    map_same (λ x. slice_index numbers (channel_index s x)) (number_of s) route (λ k d low. has.each (slice_index_or route k d) (all k d low)) in
    let P : List ℕ → Type 0 = λ ns. IsStrictlyIncreasing ns in
    subst P (sym same) (numbers_rise s h src dst from to class)
