-- Numbers that rise along a route.
use Rattle.std.proofs.Common.{◌≡◌, ◌≢◌, ℕ, ◌+◌, ◌<◌, ◌≤◌, zero, suc, List, [], ◌∷◌, ◌++◌, length, map, sym, ap, subst, arith}
use Rattle.std.specs.Prelude.{slice_index, slice_index_or}
use Rattle.std.specs.List.{range_with_len, AllPairs}
use Rattle.std.specs.List.Sorted.{IsStrictlyIncreasing}
use Rattle.std.proofs.lemmas.List.{get_or-map, length-map}
use Rattle.std.proofs.lemmas.List.Kept.{AllPairs-from_increasing}
use Rattle.std.proofs.lemmas.List.FromFn.{map-range_with_len_more}
use Rattle.torus.specs.Shape.{Shape, dims_of}
use Rattle.torus.specs.declared.shape.Class.{Class}
use Rattle.dateline_route.specs.declared.channel.Channel.{Channel}
use Rattle.dateline_route.specs.Route.{corrected, hop_of, hops_in, way_in, dimension_hops, hops_below, route_of}
use Rattle.dateline_route.proofs.Dimensions.{hops_below_more}
use Rattle.dateline_route.proofs.Walks.{injection, ejection}

-- the numbers of these channels rise, from a on and below b
abbrev pub Climbs : (Channel → ℕ) → ℕ → List Channel → ℕ → Type 0
Climbs f a [] b = a ≤ b
Climbs f a (x ∷ xs) b = (a ≤ f x) × Climbs f (f x + 1) xs b

pub climbs_on : (f : Channel → ℕ) (a : ℕ) (xs : List Channel) (b : ℕ) (ys : List Channel) (c : ℕ) → Climbs f a xs b → Climbs f b ys c → Climbs f a (xs ++ ys) c
climbs_on f a [] b [] c h g = omega arith
climbs_on f a [] b (y ∷ ys) c h g = let low : a ≤ f y = omega (arith, h, g.0) in (low, g.1)
climbs_on f a (x ∷ xs) b ys c h g = (h.0, climbs_on f (f x + 1) xs b ys c h.1 g)

pub climbs_more : (f : Channel → ℕ) (a : ℕ) (xs : List Channel) (b c : ℕ) → Climbs f a xs b → b ≤ c → Climbs f a xs c
climbs_more f a [] b c h more = omega arith
climbs_more f a (x ∷ xs) b c h more = (h.0, climbs_more f (f x + 1) xs b c h.1 more)

-- a number for each of some channels in a row
pub record Rises (f : Channel → ℕ) (channel : ℕ → Channel) (n a c : ℕ) : Type 0 where
  pub first : a ≤ c
  pub low : (i : ℕ) → i < n → a ≤ f (channel i)
  pub high : (i : ℕ) → i < n → f (channel i) < c
  pub up : (i : ℕ) → i + 1 < n → f (channel i) < f (channel (i + 1))

climbs_some : (f : Channel → ℕ) (channel : ℕ → Channel) (n a c i : ℕ) → Rises f channel n a c → i < n
    → Climbs f a (map channel (range_with_len 0 (i + 1))) (f (channel i) + 1)
climbs_some f channel n a c zero r low = (r.low 0 low, omega arith)
climbs_some f channel n a c (suc i) r low =
    let before : Climbs f a (map channel (range_with_len 0 (i + 1))) (f (channel i) + 1) = climbs_some f channel n a c i r (omega arith) in
    let up : f (channel i) < f (channel (i + 1)) = r.up i (omega arith) in
    let above : f (channel i) + 1 ≤ f (channel (i + 1)) = omega arith in
    let last : Climbs f (f (channel i) + 1) (channel (i + 1) ∷ []) (f (channel (i + 1)) + 1) = (above, omega arith) in
    let both : Climbs f a (map channel (range_with_len 0 (i + 1)) ++ channel (i + 1) ∷ []) (f (channel (i + 1)) + 1) =
    climbs_on f a (map channel (range_with_len 0 (i + 1))) (f (channel i) + 1) (channel (i + 1) ∷ []) (f (channel (i + 1)) + 1) before last in
    let P : List Channel → Type 0 = λ xs. Climbs f a xs (f (channel (i + 1)) + 1) in
    let Q : ℕ → Type 0 = λ m. Climbs f a (map channel (range_with_len 0 (m + 1))) (f (channel m) + 1) in
    let next : i + 1 ≡ suc i = omega arith in
    subst Q next (subst P (sym (map-range_with_len_more channel 0 (i + 1) (i + 1) (omega arith))) both)

pub climbs_dimension : (f : Channel → ℕ) (channel : ℕ → Channel) (n a c : ℕ) → Rises f channel n a c → Climbs f a (map channel (range_with_len 0 n)) c
climbs_dimension f channel zero a c r = r.first
climbs_dimension f channel (suc n) a c r =
    let all : Climbs f a (map channel (range_with_len 0 (n + 1))) (f (channel n) + 1) = climbs_some f channel (suc n) a c n r (omega arith) in
    let high : f (channel n) < c = r.high n (omega arith) in
    let P : ℕ → Type 0 = λ m. Climbs f a (map channel (range_with_len 0 m)) c in
    let next : n + 1 ≡ suc n = omega arith in
    subst P next (climbs_more f a (map channel (range_with_len 0 (n + 1))) (f (channel n) + 1) c all (omega arith))

-- from dimension to dimension, where `low d` is where dimension d begins
abbrev pub RisesIn : Shape → ℕ → ℕ → Class → (Channel → ℕ) → (ℕ → ℕ) → ℕ → Type 0
RisesIn s src dst class f low d =
    Rises f (hop_of s (corrected s src dst d) (way_in s (corrected s src dst d) dst d) d class) (hops_in s (corrected s src dst d) dst d) (low d) (low (d + 1))

climbs_hops : (s : Shape) (src dst : ℕ) (class : Class) (f : Channel → ℕ) (low : ℕ → ℕ) (n : ℕ) → ((d : ℕ) → d < n → RisesIn s src dst class f low d)
    → Climbs f (low 0) (hops_below s src dst class n) (low n)
climbs_hops s src dst class f low zero all = omega arith
climbs_hops s src dst class f low (suc n) all =
    let t : ℕ = corrected s src dst n in
    let before : Climbs f (low 0) (hops_below s src dst class n) (low n) = climbs_hops s src dst class f low n (λ d under. all d (omega arith)) in
    let more : Climbs f (low n) (dimension_hops s t dst class n) (low (n + 1)) =
    climbs_dimension f (hop_of s t (way_in s t dst n) n class) (hops_in s t dst n) (low n) (low (n + 1)) (all n (omega arith)) in
    let P : List Channel → Type 0 = λ xs. Climbs f (low 0) xs (low (n + 1)) in
    let Q : ℕ → Type 0 = λ m. Climbs f (low 0) (hops_below s src dst class m) (low m) in
    let next : n + 1 ≡ suc n = omega arith in
    subst Q next (subst P (sym (hops_below_more s src dst class n))
    (climbs_on f (low 0) (hops_below s src dst class n) (low n) (dimension_hops s t dst class n) (low (n + 1)) before more))

-- what rises from the injection to the ejection
pub record RisesAlong (s : Shape) (src dst : ℕ) (class : Class) (f : Channel → ℕ) (low : ℕ → ℕ) : Type 0 where
  pub first : f (injection src class) < low 0
  pub hops : (d : ℕ) → d < dims_of s → RisesIn s src dst class f low d
  pub last : low (dims_of s) ≤ f (ejection dst class)

pub climbs_route : (s : Shape) (src dst : ℕ) (class : Class) (f : Channel → ℕ) (low : ℕ → ℕ) → RisesAlong s src dst class f low
    → Climbs f 0 (route_of s src dst class) (f (ejection dst class) + 1)
climbs_route s src dst class f low r =
    let n : ℕ = dims_of s in
    let hops : List Channel = hops_below s src dst class n in
    let middle : Climbs f (low 0) hops (low n) = climbs_hops s src dst class f low n r.hops in
    let last : Climbs f (low n) (ejection dst class ∷ []) (f (ejection dst class) + 1) = (r.last, omega arith) in
    let start : Climbs f (f (injection src class) + 1) [] (low 0) = omega (arith, r.first) in
    let zero_low : 0 ≤ f (injection src class) = omega arith in (
      zero_low,
      climbs_on f (f (injection src class) + 1) [] (low 0) (hops ++ ejection dst class ∷ []) (f (ejection dst class) + 1) start
          (climbs_on f (low 0) hops (low n) (ejection dst class ∷ []) (f (ejection dst class) + 1) middle last),
    )

increasing_at : (f : Channel → ℕ) (a : ℕ) (xs : List Channel) (b k : ℕ) → Climbs f a xs b → suc k < length (map f xs)
    → slice_index (map f xs) k < slice_index (map f xs) (suc k)
increasing_at f a [] b k h low = absurd (omega arith)
increasing_at f a (x ∷ []) b k h low = absurd (omega arith)
increasing_at f a (x ∷ y ∷ ys) b zero h low = omega (arith, h.1.0)
increasing_at f a (x ∷ y ∷ ys) b (suc k) h low = increasing_at f (f x + 1) (y ∷ ys) b k h.1 (omega arith)

pub climbs_increase : (f : Channel → ℕ) (a : ℕ) (xs : List Channel) (b : ℕ) → Climbs f a xs b → IsStrictlyIncreasing (map f xs)
climbs_increase f a xs b h k low =
    let P : ℕ → Type 0 = λ m. slice_index (map f xs) k < slice_index (map f xs) m in
    let next : suc k ≡ k + 1 = omega arith in
    subst P next (increasing_at f a xs b k h (omega arith))

-- channels whose numbers rise are all different
pub distinct : (f : Channel → ℕ) (xs : List Channel) → IsStrictlyIncreasing (map f xs) → AllPairs (λ x y. x ≢ y) xs
distinct f xs up i j d less low same =
    let all : AllPairs (λ x y. x < y) (map f xs) = AllPairs-from_increasing (map f xs) up in
    let rise : slice_index (map f xs) i < slice_index (map f xs) j = all i j 0 less (omega (arith, length-map xs f)) in
    let one : slice_index (map f xs) i ≡ f (slice_index_or xs i d) = get_or-map f xs i d 0 (omega arith) in
    let two : slice_index (map f xs) j ≡ f (slice_index_or xs j d) = get_or-map f xs j d 0 low in
    let level : f (slice_index_or xs i d) ≡ f (slice_index_or xs j d) = ap f same in
    omega arith
