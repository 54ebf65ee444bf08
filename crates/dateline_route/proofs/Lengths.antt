-- Routes are short, and no channel stands in one twice.
use Rattle.std.proofs.Common.{◌≡◌, ◌≢◌, ℕ, ◌+◌, ◌*◌, ◌<◌, ◌≤◌, zero, suc, List, [], ◌∷◌, length, refl, sym, ◌∙◌, ap, subst, arith, inl, inr, length-append}
use Rattle.std.specs.Prelude.{slice_index}
use Rattle.std.specs.List.{AllPairs}
use Rattle.std.proofs.lemmas.Nat.{mul-le}
use Rattle.std.proofs.Math.Nat.{mul-one}
use Rattle.std.proofs.lemmas.Bool.{cases_lt}
use Rattle.std.proofs.lemmas.List.FromFn.{length-map-range_with_len}
use Rattle.torus.specs.Shape.{Shape, IsAccepted, product, dims_of, tiles_of, radix_of, digit_of}
use Rattle.torus.specs.declared.shape.Class.{Class}
use Rattle.torus.specs.declared.shape.Dir.{Dir}
use Rattle.torus.proofs.Hops.{digit_below}
use Rattle.dateline_route.specs.declared.channel.Channel.{Channel}
use Rattle.dateline_route.specs.declared.channel.Kind.{Kind}
use Rattle.dateline_route.specs.declared.channel.Kind.TheVariants.{Injection, Hop, Ejection}
use Rattle.dateline_route.specs.Ring.{hops_by}
use Rattle.dateline_route.specs.Route.{corrected, hop_of, hops_in, way_in, dimension_hops, hops_below, route_of}
use Rattle.dateline_route.proofs.Climbs.{RisesIn, RisesAlong, climbs_route, climbs_increase, distinct}
use Rattle.dateline_route.proofs.Rings.{shorter_hops, hops_by-digit_after}
use Rattle.dateline_route.proofs.Dimensions.{IsAfter, hops_below_more, few_hops}
use Rattle.dateline_route.proofs.Walks.{IsTrip, InDimension, in_dimension, tile_at, after_at, ejection}

-- the sum of the first n
abbrev pub total : (ℕ → ℕ) → ℕ → ℕ
total f zero = 0
total f (suc n) = total f n + f n

abbrev pub hops_at : Shape → ℕ → ℕ → ℕ → ℕ
hops_at s src dst d = hops_in s (corrected s src dst d) dst d

pub length-hops_below : (s : Shape) (src dst : ℕ) (class : Class) (n : ℕ) → length (hops_below s src dst class n) ≡ total (hops_at s src dst) n
length-hops_below s src dst class zero = refl
length-hops_below s src dst class (suc n) =
    let t : ℕ = corrected s src dst n in
    let f : ℕ → Channel = hop_of s t (way_in s t dst n) n class in
    let P : ℕ → Type 0 = λ m. length (hops_below s src dst class m) ≡ total (hops_at s src dst) n + hops_at s src dst n in
    let next : n + 1 ≡ suc n = omega arith in
    subst P next (ap length (hops_below_more s src dst class n) ∙ length-append (hops_below s src dst class n) (dimension_hops s t dst class n)
    ∙ ap (λ m. m + length (dimension_hops s t dst class n)) (length-hops_below s src dst class n)
    ∙ ap (λ m. total (hops_at s src dst) n + m) (length-map-range_with_len f 0 (hops_in s t dst n)))

product_large : (x y z : ℕ) → x ≤ 4 → y ≤ 4 → z ≤ 4 → 9 ≤ x + (y + z) → 9 ≤ x * (y * z)
product_large x zero zero a b c sum = omega arith
product_large x zero (suc zero) a b c sum = omega arith
product_large x zero (suc (suc zero)) a b c sum = omega arith
product_large x zero (suc (suc (suc zero))) a b c sum = omega arith
product_large x zero (suc (suc (suc (suc zero)))) a b c sum = omega arith
product_large x zero (suc (suc (suc (suc (suc z))))) a b c sum = absurd (omega arith)
product_large x (suc zero) zero a b c sum = omega arith
product_large x (suc zero) (suc zero) a b c sum = omega arith
product_large x (suc zero) (suc (suc zero)) a b c sum = omega arith
product_large x (suc zero) (suc (suc (suc zero))) a b c sum = omega arith
product_large x (suc zero) (suc (suc (suc (suc zero)))) a b c sum = omega arith
product_large x (suc zero) (suc (suc (suc (suc (suc z))))) a b c sum = absurd (omega arith)
product_large x (suc (suc zero)) zero a b c sum = omega arith
product_large x (suc (suc zero)) (suc zero) a b c sum = omega arith
product_large x (suc (suc zero)) (suc (suc zero)) a b c sum = omega arith
product_large x (suc (suc zero)) (suc (suc (suc zero))) a b c sum = omega arith
product_large x (suc (suc zero)) (suc (suc (suc (suc zero)))) a b c sum = omega arith
product_large x (suc (suc zero)) (suc (suc (suc (suc (suc z))))) a b c sum = absurd (omega arith)
product_large x (suc (suc (suc zero))) zero a b c sum = omega arith
product_large x (suc (suc (suc zero))) (suc zero) a b c sum = omega arith
product_large x (suc (suc (suc zero))) (suc (suc zero)) a b c sum = omega arith
product_large x (suc (suc (suc zero))) (suc (suc (suc zero))) a b c sum = omega arith
product_large x (suc (suc (suc zero))) (suc (suc (suc (suc zero)))) a b c sum = omega arith
product_large x (suc (suc (suc zero))) (suc (suc (suc (suc (suc z))))) a b c sum = absurd (omega arith)
product_large x (suc (suc (suc (suc zero)))) zero a b c sum = omega arith
product_large x (suc (suc (suc (suc zero)))) (suc zero) a b c sum = omega arith
product_large x (suc (suc (suc (suc zero)))) (suc (suc zero)) a b c sum = omega arith
product_large x (suc (suc (suc (suc zero)))) (suc (suc (suc zero))) a b c sum = omega arith
product_large x (suc (suc (suc (suc zero)))) (suc (suc (suc (suc zero)))) a b c sum = omega arith
product_large x (suc (suc (suc (suc zero)))) (suc (suc (suc (suc (suc z))))) a b c sum = absurd (omega arith)
product_large x (suc (suc (suc (suc (suc y))))) z a b c sum = absurd (omega arith)

-- three radices of which the product is at most 64
three_few : (k l m x y z : ℕ) → k ≤ 8 → l ≤ 8 → m ≤ 8 → k * (l * m) ≤ 64 → x + x ≤ k → y + y ≤ l → z + z ≤ m → x + (y + z) ≤ 8
three_few k l m x y z a b c small hx hy hz =
    elim (cases_lt 8 (x + (y + z))) [
      | inl many ↦ (
          let large : 9 ≤ x * (y * z) = product_large x y z (omega arith) (omega arith) (omega arith) (omega arith) in
          let inner : (y + y) * (z + z) ≤ l * m = mul-le (y + y) (z + z) l m hy hz in
          let outer : (x + x) * ((y + y) * (z + z)) ≤ k * (l * m) = mul-le (x + x) ((y + y) * (z + z)) k (l * m) hx inner in
          omega arith)
      | inr few ↦ few
    ]

-- at most half of each ring's digits make at most eight hops
half_rings : (ks : List ℕ) (h : ℕ → ℕ) → 1 ≤ length ks → length ks ≤ 3 → ((d : ℕ) → d < length ks → slice_index ks d ≤ 8) → product ks ≤ 64 →
    ((d : ℕ) → d < length ks → h d + h d ≤ slice_index ks d) → total h (length ks) ≤ 8
half_rings [] h low high small tiles half = absurd (omega arith)
half_rings (k ∷ []) h low high small tiles half =
    let a : k ≤ 8 = small 0 (omega arith) in let x : h 0 + h 0 ≤ k = half 0 (omega arith) in omega arith
half_rings (k ∷ l ∷ []) h low high small tiles half =
    let a : k ≤ 8 = small 0 (omega arith) in let x : h 0 + h 0 ≤ k = half 0 (omega arith) in
    let b : l ≤ 8 = small 1 (omega arith) in let y : h 1 + h 1 ≤ l = half 1 (omega arith) in omega arith
half_rings (k ∷ l ∷ m ∷ []) h low high small tiles half =
    let tiles' : k * (l * m) ≤ 64 = (simp mul-one at tiles) in
    let few : h 0 + (h 1 + h 2) ≤ 8 =
    three_few k l m (h 0) (h 1) (h 2) (small 0 (omega arith)) (small 1 (omega arith)) (small 2 (omega arith)) tiles' (half 0 (omega arith))
    (half 1 (omega arith)) (half 2 (omega arith)) in
    omega arith
half_rings (k ∷ l ∷ m ∷ n ∷ ks) h low high small tiles half = absurd (omega arith)

pub route_short : (s : Shape) → IsAccepted s → (src dst : ℕ) → src < tiles_of s → dst < tiles_of s → (class : Class) → length (route_of s src dst class) ≤ 10
route_short s h src dst from to class =
    let trip : IsTrip s src dst = record { accepted = h; from = from; to = to } in
    let half : (d : ℕ) → d < dims_of s → hops_at s src dst d + hops_at s src dst d ≤ radix_of s d =
    λ d low. shorter_hops (radix_of s d) (digit_of s (corrected s src dst d) d) (digit_of s dst d) (way_in s (corrected s src dst d) dst d)
    (digit_below s h (corrected s src dst d) d low) (digit_below s h dst d low) (in_dimension s src dst d trip low).way in
    let few : total (hops_at s src dst) (dims_of s) ≤ 8 = half_rings s.radices (hops_at s src dst) h.dims_low h.dims_high h.radix_high h.tiles half in
    omega (arith, length-append (hops_below s src dst class (dims_of s)) (ejection dst class ∷ []), length-hops_below s src dst class (dims_of s))

-- where a channel stands on the routes out of tile src
abbrev pub key_of : Shape → ℕ → ℕ → Kind → ℕ
key_of s src t Injection = 0
key_of s src t (Hop d dir bit) = 1 + (8 * d + hops_by dir (radix_of s d) (digit_of s src d) (digit_of s t d))
key_of s src t Ejection = 25

abbrev pub key : Shape → ℕ → Channel → ℕ
key s src x = key_of s src x.tile x.kind

key-hop : (s : Shape) (src dst d i : ℕ) (dir : Dir) (class : Class) → InDimension s src dst d (corrected s src dst d) dir → i < radix_of s d
    → key s src (hop_of s (corrected s src dst d) dir d class i) ≡ 1 + (8 * d + i)
key-hop s src dst d i dir class r few =
    let t : ℕ = corrected s src dst d in
    let k : ℕ = radix_of s d in
    let x : ℕ = digit_of s t d in
    let a : IsAfter s t dir d i (tile_at s t dir d i) = after_at s src dst d t dir i r (omega arith) in
    let begins : digit_of s src d ≡ x = sym (r.start.above d r.low (omega arith)) in
    let made : hops_by dir k (digit_of s src d) (digit_of s (tile_at s t dir d i) d) ≡ i =
    ap (λ n. hops_by dir k n (digit_of s (tile_at s t dir d i) d)) begins ∙ ap (hops_by dir k x) a.moved.moved
    ∙ hops_by-digit_after dir k x i (digit_below s r.accepted t d r.low) few in
    ap (λ n. 1 + (8 * d + n)) made

key_rises : (s : Shape) (src dst : ℕ) (class : Class) (d : ℕ) → IsTrip s src dst → d < dims_of s → RisesIn s src dst class (key s src) (λ e. 1 + 8 * e) d
key_rises s src dst class d trip low =
    let t : ℕ = corrected s src dst d in
    let k : ℕ = radix_of s d in
    let dir : Dir = way_in s t dst d in
    let r : InDimension s src dst d t dir = in_dimension s src dst d trip low in
    let small : k ≤ 8 = trip.accepted.radix_high d low in
    let few : hops_in s t dst d < k =
    (few_hops dir k (digit_of s t d) (digit_of s dst d) r.way (digit_below s trip.accepted t d low) (digit_below s trip.accepted dst d low) small).1 in
    let is : (i : ℕ) → i < k → key s src (hop_of s t dir d class i) ≡ 1 + (8 * d + i) = λ i less. key-hop s src dst d i dir class r less in
    record {
      first = omega arith;
      low = λ i less. omega (arith, is i (omega arith));
      high = λ i less. omega (arith, is i (omega arith));
      up = λ i less. omega (arith, is i (omega arith), is (i + 1) (omega arith));
    }

pub route_distinct : (s : Shape) → IsAccepted s → (src dst : ℕ) → src < tiles_of s → dst < tiles_of s → (class : Class)
    → AllPairs (λ x y. x ≢ y) (route_of s src dst class)
route_distinct s h src dst from to class =
    let trip : IsTrip s src dst = record { accepted = h; from = from; to = to } in
    let rises : RisesAlong s src dst class (key s src) (λ e. 1 + 8 * e) = record {
      first = omega arith;
      hops = λ d low. key_rises s src dst class d trip low;
      last = omega (arith, h.dims_high);
    } in
    distinct (key s src) (route_of s src dst class)
    (climbs_increase (key s src) 0 (route_of s src dst class) 26 (climbs_route s src dst class (key s src) (λ e. 1 + 8 * e) rises))

pub route_long : (s : Shape) (src dst : ℕ) (class : Class) → 2 ≤ length (route_of s src dst class)
route_long s src dst class = omega (arith, length-append (hops_below s src dst class (dims_of s)) (ejection dst class ∷ []))
