-- What the lists of three in a `Torus` say of its shape.
use Rattle.std.proofs.Common.{◌≡◌, ℕ, ◌*◌, ◌<◌, ◌≤◌, zero, suc, List, [], ◌∷◌, length, take, subst, arith}
use Rattle.std.specs.Prelude.{slice_index}
use Rattle.std.proofs.Math.Nat.{mul-one, mul_assoc}
use Rattle.std.proofs.lemmas.Nat.{mul-le}
use Rattle.torus.specs.Shape.{product, tiles_of}
use Rattle.torus.proofs.MixedRadix.{all_positive, product_positive}
use Rattle.torus.specs.Filled.{filled}
use Rattle.torus.specs.Inside.{IsTorus, shape_of}
use Rattle.torus.specs.declared.shape.Torus.TheInside.{Inside}

-- the product of the three is that of the list
pub product-filled : (xs : List ℕ) → 1 ≤ length xs → length xs ≤ 3 →
    slice_index (filled 1 xs) 0 * slice_index (filled 1 xs) 1 * slice_index (filled 1 xs) 2 ≡ product xs
product-filled [] low high = absurd (omega arith)
product-filled (a ∷ []) low high = simp mul-one
product-filled (a ∷ b ∷ []) low high = simp mul-one
product-filled (a ∷ b ∷ c ∷ []) low high = simp (mul-one, mul_assoc)
product-filled (a ∷ b ∷ c ∷ d ∷ xs) low high = absurd (omega arith)

-- the product of the three is the number of tiles
pub tiles_is : (t : Inside) → IsTorus t → slice_index t.radices 0 * slice_index t.radices 1 * slice_index t.radices 2 ≡ tiles_of (shape_of t)
tiles_is t h =
    let P : List ℕ → Type 0 = λ rs. slice_index rs 0 * slice_index rs 1 * slice_index rs 2 ≡ tiles_of (shape_of t) in
    subst P h.radices (product-filled (take t.dims t.radices) h.accepted.dims_low h.accepted.dims_high)

-- the three that begin with small numbers are small
pub filled_small : (xs : List ℕ) → length xs ≤ 3 → ((d : ℕ) → d < length xs → slice_index xs d ≤ 8) → (i : ℕ) → slice_index (filled 1 xs) i ≤ 8
filled_small [] high h zero = omega arith
filled_small [] high h (suc zero) = omega arith
filled_small [] high h (suc (suc zero)) = omega arith
filled_small [] high h (suc (suc (suc i))) = omega arith
filled_small (a ∷ []) high h zero = h 0 (omega arith)
filled_small (a ∷ []) high h (suc zero) = omega arith
filled_small (a ∷ []) high h (suc (suc zero)) = omega arith
filled_small (a ∷ []) high h (suc (suc (suc i))) = omega arith
filled_small (a ∷ b ∷ []) high h zero = h 0 (omega arith)
filled_small (a ∷ b ∷ []) high h (suc zero) = h 1 (omega arith)
filled_small (a ∷ b ∷ []) high h (suc (suc zero)) = omega arith
filled_small (a ∷ b ∷ []) high h (suc (suc (suc i))) = omega arith
filled_small (a ∷ b ∷ c ∷ []) high h zero = h 0 (omega arith)
filled_small (a ∷ b ∷ c ∷ []) high h (suc zero) = h 1 (omega arith)
filled_small (a ∷ b ∷ c ∷ []) high h (suc (suc zero)) = h 2 (omega arith)
filled_small (a ∷ b ∷ c ∷ []) high h (suc (suc (suc i))) = omega arith
filled_small (a ∷ b ∷ c ∷ d ∷ xs) high h i = absurd (omega arith)

-- no number of the three is above 8
pub radices_small : (t : Inside) → IsTorus t → (i : ℕ) → slice_index t.radices i ≤ 8
radices_small t h i =
    let P : List ℕ → Type 0 = λ rs. slice_index rs i ≤ 8 in
    subst P h.radices (filled_small (take t.dims t.radices) h.accepted.dims_high h.accepted.radix_high i)

-- nor is the product of two above 64
pub two_radices_small : (t : Inside) → IsTorus t → (i j : ℕ) → slice_index t.radices i * slice_index t.radices j ≤ 64
two_radices_small t h i j = mul-le (slice_index t.radices i) (slice_index t.radices j) 8 8 (radices_small t h i) (radices_small t h j)

pub three_radices_small : (t : Inside) → IsTorus t → slice_index t.radices 0 * slice_index t.radices 1 * slice_index t.radices 2 ≤ 512
three_radices_small t h =
    mul-le (slice_index t.radices 0 * slice_index t.radices 1) (slice_index t.radices 2) 64 8 (two_radices_small t h 0 1) (radices_small t h 2)

pub some_tiles : (t : Inside) → IsTorus t → 0 < tiles_of (shape_of t)
some_tiles t h = product_positive (take t.dims t.radices) (all_positive (take t.dims t.radices) h.accepted.radix_low)
