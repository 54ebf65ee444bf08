-- Hops on the ring of one dimension, by numbers alone.
use Rattle.std.proofs.Common.{◌≡◌, ◌≢◌, ℕ, ◌+◌, ◌-◌, ◌%◌, ◌<◌, ◌≤◌, ◌⊎◌, Bool, [], ◌∷◌, ◌++◌, sym, ◌∙◌, ap, subst, arith, inl, inr}
use Rattle.std.specs.Prelude.{nat_le, ◌==◌, ◌||◌}
use Rattle.std.proofs.Math.Nat.{mod-eq_of_lt, add-mod_right}
use Rattle.std.proofs.lemmas.Bool.{cases_lt, cases_eq, le-leb, lt-leb, cond-true, cond-false}
use Rattle.std.proofs.lemmas.List.{map-id}
use Rattle.std.proofs.lemmas.List.Folds.{list_any-append}
use Rattle.std.specs.List.{list_any, range_with_len}
use Rattle.std.proofs.Math.Bool.{or-false}
use Rattle.std.proofs.lemmas.List.FromFn.{map-range_with_len_more}
use Rattle.torus.specs.Shape.{one_hop}
use Rattle.torus.specs.declared.shape.Dir.{Dir}
use Rattle.torus.specs.declared.shape.Dir.TheVariants.{Plus, Minus}
use Rattle.dateline_route.specs.Ring.{hops_by, shorter_way, digit_after, dateline_out_of, is_crossed}

pub mod_small : (n k : ℕ) → n < k → n % k ≡ n
mod_small n k h = mod-eq_of_lt h

pub mod_over : (n k : ℕ) → k ≤ n → n < k + k → n % k + k ≡ n
mod_over n k low high =
    let rest : n - k < k = omega arith in
    let sum : n ≡ (n - k) + k = omega arith in
    let same : n % k ≡ n - k = ap (λ m. m % k) sum ∙ add-mod_right (n - k) k ∙ mod-eq_of_lt rest in
    omega arith

-- modulo k, a number below twice k is itself, or itself less k
pub mod_cases : (n k : ℕ) → n < k + k → ((n < k) × (n % k ≡ n)) ⊎ ((k ≤ n) × (n % k + k ≡ n))
mod_cases n k high = elim (cases_lt n k) [ inl small ↦ inl (small, mod_small n k small) | inr large ↦ inr (large, mod_over n k large high) ]

-- the digit that hops lead to, one hop further
pub one_hop-digit_after : (dir : Dir) (k x i : ℕ) → x < k → i < k → one_hop dir k (digit_after dir k x i) ≡ digit_after dir k x (i + 1)
one_hop-digit_after Plus k x i below few = let w0 = mod_cases (x + i) k (omega arith) in let w1 = mod_cases ((x + i) % k + 1) k (omega arith) in
    let w2 = mod_cases (x + (i + 1)) k (omega arith) in grind arith
one_hop-digit_after Minus k x i below few = let w0 = mod_cases (x + (k - i)) k (omega arith) in
    let w1 = mod_cases ((x + (k - i)) % k + (k - 1)) k (omega arith) in let w2 = mod_cases (x + (k - (i + 1))) k (omega arith) in grind arith

pub digit_after-zero : (dir : Dir) (k x : ℕ) → x < k → digit_after dir k x 0 ≡ x
digit_after-zero Plus k x below = let w0 = mod_cases (x + 0) k (omega arith) in grind arith
digit_after-zero Minus k x below = let w0 = mod_cases (x + (k - 0)) k (omega arith) in grind arith

pub digit_after_below : (dir : Dir) (k x i : ℕ) → x < k → i ≤ k → digit_after dir k x i < k
digit_after_below Plus k x i below few = let w0 = mod_cases (x + i) k (omega arith) in grind arith
digit_after_below Minus k x i below few = let w0 = mod_cases (x + (k - i)) k (omega arith) in grind arith

pub hops_by_below : (dir : Dir) (k x y : ℕ) → x < k → y < k → hops_by dir k x y < k
hops_by_below Plus k x y here there = let w0 = mod_cases (y + (k - x)) k (omega arith) in grind arith
hops_by_below Minus k x y here there = let w0 = mod_cases (x + (k - y)) k (omega arith) in grind arith

-- that many hops lead to the digit
pub digit_after-hops_by : (dir : Dir) (k x y : ℕ) → x < k → y < k → digit_after dir k x (hops_by dir k x y) ≡ y
digit_after-hops_by Plus k x y here there = let w0 = mod_cases (y + (k - x)) k (omega arith) in let w1 = mod_cases (x + (y + (k - x)) % k) k (omega arith) in
    grind arith
digit_after-hops_by Minus k x y here there = let w0 = mod_cases (x + (k - y)) k (omega arith) in
    let w1 = mod_cases (x + (k - (x + (k - y)) % k)) k (omega arith) in grind arith

-- no fewer hops do
pub hops_by-digit_after : (dir : Dir) (k x i : ℕ) → x < k → i < k → hops_by dir k x (digit_after dir k x i) ≡ i
hops_by-digit_after Plus k x i here few = let w0 = mod_cases (x + i) k (omega arith) in let w1 = mod_cases ((x + i) % k + (k - x)) k (omega arith) in
    grind arith
hops_by-digit_after Minus k x i here few = let w0 = mod_cases (x + (k - i)) k (omega arith) in
    let w1 = mod_cases (x + (k - (x + (k - i)) % k)) k (omega arith) in grind arith

-- after i of them, as many fewer are left
pub hops_by_after : (dir : Dir) (k x y i : ℕ) → x < k → y < k → i ≤ hops_by dir k x y → hops_by dir k (digit_after dir k x i) y + i ≡ hops_by dir k x y
hops_by_after Plus k x y i here there few = let w0 = mod_cases (y + (k - x)) k (omega arith) in let w1 = mod_cases (x + i) k (omega arith) in
    let w2 = mod_cases (y + (k - (x + i) % k)) k (omega arith) in grind arith
hops_by_after Minus k x y i here there few = let w0 = mod_cases (x + (k - y)) k (omega arith) in let w1 = mod_cases (x + (k - i)) k (omega arith) in
    let w2 = mod_cases ((x + (k - i)) % k + (k - y)) k (omega arith) in grind arith

-- the two ways round make the whole ring
pub hops_both : (k x y : ℕ) → x < k → y < k → x ≢ y → hops_by Plus k x y + hops_by Minus k x y ≡ k
hops_both k x y here there apart = let w0 = mod_cases (y + (k - x)) k (omega arith) in let w1 = mod_cases (x + (k - y)) k (omega arith) in grind arith

pub hops_by-same : (dir : Dir) (k x : ℕ) → x < k → hops_by dir k x x ≡ 0
hops_by-same Plus k x here = let w0 = mod_cases (x + (k - x)) k (omega arith) in grind arith
hops_by-same Minus k x here = let w0 = mod_cases (x + (k - x)) k (omega arith) in grind arith

pub plus_way : (k x y : ℕ) → hops_by Plus k x y ≤ hops_by Minus k x y → shorter_way k x y ≡ Plus
plus_way k x y h = cond-true (nat_le (hops_by Plus k x y) (hops_by Minus k x y)) Plus Minus (le-leb (hops_by Plus k x y) (hops_by Minus k x y) h)

pub minus_way : (k x y : ℕ) → hops_by Minus k x y < hops_by Plus k x y → shorter_way k x y ≡ Minus
minus_way k x y h = cond-false (nat_le (hops_by Plus k x y) (hops_by Minus k x y)) Plus Minus (lt-leb (hops_by Plus k x y) (hops_by Minus k x y) h)

-- what the shorter way is
abbrev pub IsShorter : ℕ → ℕ → ℕ → Dir → Type 0
IsShorter k x y Plus = hops_by Plus k x y ≤ hops_by Minus k x y
IsShorter k x y Minus = hops_by Minus k x y < hops_by Plus k x y

pub shorter_way-is : (k x y : ℕ) (dir : Dir) → IsShorter k x y dir → shorter_way k x y ≡ dir
shorter_way-is k x y Plus h = plus_way k x y h
shorter_way-is k x y Minus h = minus_way k x y h

pub shorter : (k x y : ℕ) → IsShorter k x y (shorter_way k x y)
shorter k x y =
    let a : ℕ = hops_by Plus k x y in
    let b : ℕ = hops_by Minus k x y in
    let P : Dir → Type 0 = λ dir. IsShorter k x y dir in
    elim (cases_lt b a) [
      | inr low ↦ subst P (sym (plus_way k x y low)) low
      | inl high ↦ subst P (sym (minus_way k x y high)) high
    ]

-- by the shorter way at most half of the ring is gone round
few_hops : (k x y : ℕ) (dir : Dir) → x < k → y < k → x ≢ y → IsShorter k x y dir → hops_by dir k x y + hops_by dir k x y ≤ k
few_hops k x y Plus here there apart h = omega (arith, hops_both k x y here there apart)
few_hops k x y Minus here there apart h = omega (arith, hops_both k x y here there apart)

pub shorter_hops : (k x y : ℕ) (dir : Dir) → x < k → y < k → IsShorter k x y dir → hops_by dir k x y + hops_by dir k x y ≤ k
shorter_hops k x y dir here there h =
    elim (cases_eq x y) [
      | inl same ↦ (let none : hops_by dir k x y ≡ 0 = ap (hops_by dir k x) (sym same) ∙ hops_by-same dir k x here in omega arith)
      | inr apart ↦ few_hops k x y dir here there apart h
    ]

-- before the last hop the digits differ
pub apart_before : (dir : Dir) (k x y i : ℕ) → x < k → y < k → i < hops_by dir k x y → digit_after dir k x i ≢ y
apart_before dir k x y i here there few same =
    let short : i < k = omega (arith, hops_by_below dir k x y here there) in
    let number : hops_by dir k x (digit_after dir k x i) ≡ i = hops_by-digit_after dir k x i here short in
    let other : hops_by dir k x (digit_after dir k x i) ≡ hops_by dir k x y = ap (hops_by dir k x) same in
    omega arith

-- and the shorter way stays the same
way_stays : (k x y z : ℕ) (dir : Dir) → x < k → y < k → z < k → x ≢ y → z ≢ y → hops_by dir k z y ≤ hops_by dir k x y → IsShorter k x y dir
    → IsShorter k z y dir
way_stays k x y z Plus here there now apart apart' less h = omega (arith, hops_both k x y here there apart, hops_both k z y now there apart')
way_stays k x y z Minus here there now apart apart' less h = omega (arith, hops_both k x y here there apart, hops_both k z y now there apart')

pub shorter_stays : (dir : Dir) (k x y i : ℕ) → x < k → y < k → IsShorter k x y dir → i < hops_by dir k x y → IsShorter k (digit_after dir k x i) y dir
shorter_stays dir k x y i here there h few =
    let short : i ≤ k = omega (arith, hops_by_below dir k x y here there) in
    let apart : x ≢ y = λ same. (let none : hops_by dir k x y ≡ 0 = ap (hops_by dir k x) (sym same) ∙ hops_by-same dir k x here in omega arith) in
    let left : hops_by dir k (digit_after dir k x i) y + i ≡ hops_by dir k x y = hops_by_after dir k x y i here there (omega arith) in
    way_stays k x y (digit_after dir k x i) dir here there (digit_after_below dir k x i here short) apart (apart_before dir k x y i here there few)
    (omega arith) h

-- a range of numbers, one longer
pub range_more : (a n j : ℕ) → a + n ≡ j → range_with_len a (n + 1) ≡ range_with_len a n ++ j ∷ []
range_more a n j e = sym (map-id (range_with_len a (n + 1))) ∙ map-range_with_len_more (λ m. m) a n j e ∙ ap (λ ms. ms ++ j ∷ []) (map-id (range_with_len a n))

-- whether the dateline is crossed, one hop further
pub is_crossed_more : (dir : Dir) (k z x i : ℕ)
    → is_crossed dir k z x (i + 1) ≡ (is_crossed dir k z x i || (digit_after dir k x (i + 1) == dateline_out_of dir k z))
is_crossed_more dir k z x i =
    let p : ℕ → Bool = λ j. digit_after dir k x j == dateline_out_of dir k z in
    ap (list_any p) (range_more 0 (i + 1) (i + 1) (omega arith)) ∙ list_any-append p (range_with_len 0 (i + 1)) ((i + 1) ∷ [])
    ∙ ap (λ b. is_crossed dir k z x i || b) (or-false (p (i + 1)))

pub is_crossed_first : (dir : Dir) (k z x : ℕ) → is_crossed dir k z x 0 ≡ (digit_after dir k x 0 == dateline_out_of dir k z)
is_crossed_first dir k z x = or-false (digit_after dir k x 0 == dateline_out_of dir k z)

-- the way between other digits that are the same
pub way_between : (dir : Dir) (k l x v y w : ℕ) → dir ≡ shorter_way k x y → k ≡ l → x ≡ v → y ≡ w → dir ≡ shorter_way l v w
way_between dir k l x v y w e k_is x_is y_is =
    e ∙ ap (λ n. shorter_way n x y) k_is ∙ ap (λ n. shorter_way l n y) x_is ∙ ap (λ n. shorter_way l v n) y_is

-- the other way needs no fewer hops
no_more : (k x y : ℕ) (way dir : Dir) → IsShorter k x y way → hops_by way k x y ≤ hops_by dir k x y
no_more k x y Plus Plus h = omega arith
no_more k x y Plus Minus h = omega arith
no_more k x y Minus Plus h = omega arith
no_more k x y Minus Minus h = omega arith

-- the shorter way leads there
pub way_leads : (k x y : ℕ) → x < k → y < k → digit_after (shorter_way k x y) k x (hops_by (shorter_way k x y) k x y) ≡ y
way_leads k x y here there = digit_after-hops_by (shorter_way k x y) k x y here there

-- and fewer hops do not, in either direction
pub way_least : (dir : Dir) (k x y i : ℕ) → x < k → y < k → i < k → digit_after dir k x i ≡ y → hops_by (shorter_way k x y) k x y ≤ i
way_least dir k x y i here there few leads =
    let own : hops_by dir k x y ≡ i = ap (hops_by dir k x) (sym leads) ∙ hops_by-digit_after dir k x i here few in
    let less : hops_by (shorter_way k x y) k x y ≤ hops_by dir k x y = no_more k x y (shorter_way k x y) dir (shorter k x y) in
    omega arith

-- one hop more leads to the next digit
pub after_next : (dir : Dir) (k x i : ℕ) → x < k → i < k → digit_after dir k x (i + 1) ≡ one_hop dir k (digit_after dir k x i)
after_next dir k x i here few = sym (one_hop-digit_after dir k x i here few)
