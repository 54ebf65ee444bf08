-- Numbers in mixed radix: a number below the product of the radices and the list of its digits determine each other.
use Rattle.std.proofs.Common.{◌≡◌, ℕ, ◌+◌, ◌*◌, ◌/◌, ◌%◌, ◌<◌, ◌≤◌, zero, suc, List, [], ◌∷◌, length, take, refl, sym, ◌∙◌, ap, arith}
use Rattle.std.specs.Prelude.{slice_index, slice_set}
use Rattle.std.proofs.Math.Nat.{div-div-eq-div-mul, div-one, mul_comm, mul_assoc, one-mul, add-mul, mul-pos}
use Rattle.std.proofs.lemmas.Nat.{mul-add-lt, div-mul-add, mod-mul-add, div-add-mod', div_below, mod_below}
use Rattle.torus.specs.Shape.{product}

-- the digits of a number, lowest first
abbrev pub digits : List ℕ → ℕ → List ℕ
digits [] t = []
digits (k ∷ ks) t = t % k ∷ digits ks (t / k)

-- the number that has these digits
abbrev pub value : List ℕ → List ℕ → ℕ
value [] xs = 0
value (k ∷ ks) [] = 0
value (k ∷ ks) (x ∷ xs) = value ks xs * k + x

-- each digit is below its radix
abbrev pub InRange : List ℕ → List ℕ → Type 0
InRange [] [] = Unit {0}
InRange (k ∷ ks) (x ∷ xs) = (x < k) × InRange ks xs
InRange [] (x ∷ xs) = ⊥
InRange (k ∷ ks) [] = ⊥

-- no radix is 0
abbrev pub AllPositive : List ℕ → Type 0
AllPositive [] = Unit {0}
AllPositive (k ∷ ks) = (0 < k) × AllPositive ks

pub length-digits : (ks : List ℕ) (t : ℕ) → length (digits ks t) ≡ length ks
length-digits [] t = refl
length-digits (k ∷ ks) t = ap suc (length-digits ks (t / k))

pub digits_in_range : (ks : List ℕ) (t : ℕ) → AllPositive ks → InRange ks (digits ks t)
digits_in_range [] t h = tt
digits_in_range (k ∷ ks) t h = (mod_below t k h.0, digits_in_range ks (t / k) h.1)

pub value_below : (ks xs : List ℕ) → InRange ks xs → value ks xs < product ks
value_below [] [] h = omega arith
value_below [] (x ∷ xs) h = absurd h
value_below (k ∷ ks) [] h = absurd h
value_below (k ∷ ks) (x ∷ xs) h =
    let below : value ks xs * k + x < k * product ks = mul-add-lt (value ks xs) k x (product ks) (value_below ks xs h.1) h.0 in
    below

pub digits-value : (ks xs : List ℕ) → InRange ks xs → digits ks (value ks xs) ≡ xs
digits-value [] [] h = refl
digits-value [] (x ∷ xs) h = absurd h
digits-value (k ∷ ks) [] h = absurd h
digits-value (k ∷ ks) (x ∷ xs) h =
    rw (mod-mul-add (value ks xs) k x h.0, div-mul-add (value ks xs) k x h.0, digits-value ks xs h.1) refl

pub value-digits : (ks : List ℕ) (t : ℕ) → AllPositive ks → t < product ks → value ks (digits ks t) ≡ t
value-digits [] t h below = omega arith
value-digits (k ∷ ks) t h below =
    let turned : t < product ks * k = rw (mul_comm (product ks) k) below in
    let high : value ks (digits ks (t / k)) ≡ t / k = value-digits ks (t / k) h.1 (div_below t k (product ks) h.0 turned) in
    ap (λ n. n * k + t % k) high ∙ div-add-mod' t k

pub digit_at : (ks : List ℕ) (t d : ℕ) → d < length ks → slice_index (digits ks t) d ≡ (t / product (take d ks)) % slice_index ks d
digit_at [] t d h = absurd (omega arith)
digit_at (k ∷ ks) t zero h = ap (λ n. n % k) (sym (div-one t))
digit_at (k ∷ ks) t (suc d) h =
    digit_at ks (t / k) d (omega arith) ∙ ap (λ n. n % slice_index ks d) (div-div-eq-div-mul t k (product (take d ks)))

scaled : (a b p g y k x : ℕ) → a + p * g ≡ b + p * y → (a * k + x) + k * p * g ≡ (b * k + x) + k * p * y
scaled a b p g y k x e =
    omega (arith, ap (λ n. n * k) e, add-mul a (p * g) k, add-mul b (p * y) k, mul_assoc k p g, mul_assoc k p y, mul_comm k (p * g), mul_comm k (p * y))

-- another digit in one place changes the number by the tiles that lie below that place
pub value-set : (ks xs : List ℕ) (d y : ℕ) → InRange ks xs → d < length ks →
    value ks (slice_set xs d y) + product (take d ks) * slice_index xs d ≡ value ks xs + product (take d ks) * y
value-set [] [] d y h low = absurd (omega arith)
value-set [] (x ∷ xs) d y h low = absurd h
value-set (k ∷ ks) [] d y h low = absurd h
value-set (k ∷ ks) (x ∷ xs) zero y h low = rw (one-mul x, one-mul y) (omega arith)
value-set (k ∷ ks) (x ∷ xs) (suc d) y h low =
    scaled (value ks (slice_set xs d y)) (value ks xs) (product (take d ks)) (slice_index xs d) y k x (value-set ks xs d y h.1 (omega arith))

pub in_range_set : (ks xs : List ℕ) (d y : ℕ) → InRange ks xs → y < slice_index ks d → InRange ks (slice_set xs d y)
in_range_set [] [] d y h low = tt
in_range_set [] (x ∷ xs) d y h low = absurd h
in_range_set (k ∷ ks) [] d y h low = absurd h
in_range_set (k ∷ ks) (x ∷ xs) zero y h low = (low, h.1)
in_range_set (k ∷ ks) (x ∷ xs) (suc d) y h low = (h.0, in_range_set ks xs d y h.1 low)

pub all_positive : (ks : List ℕ) → ((d : ℕ) → d < length ks → 2 ≤ slice_index ks d) → AllPositive ks
all_positive [] h = tt
all_positive (k ∷ ks) h =
    let first : 2 ≤ k = h 0 (omega arith) in
    (omega arith, all_positive ks (λ d low. h (suc d) (omega arith)))

pub in_range : (ks xs : List ℕ) → length xs ≡ length ks → ((d : ℕ) → d < length ks → slice_index xs d < slice_index ks d) → InRange ks xs
in_range [] [] e h = tt
in_range [] (x ∷ xs) e h = absurd (omega arith)
in_range (k ∷ ks) [] e h = absurd (omega arith)
in_range (k ∷ ks) (x ∷ xs) e h = (h 0 (omega arith), in_range ks xs (omega arith) (λ d low. h (suc d) (omega arith)))

pub product_positive : (ks : List ℕ) → AllPositive ks → 0 < product ks
product_positive [] h = omega arith
product_positive (k ∷ ks) h = mul-pos h.0 (product_positive ks h.1)

pub all_positive-take : (ks : List ℕ) (d : ℕ) → AllPositive ks → AllPositive (take d ks)
all_positive-take ks zero h = tt
all_positive-take [] (suc d) h = tt
all_positive-take (k ∷ ks) (suc d) h = (h.0, all_positive-take ks d h.1)
