-- What the tests of `Torus::mixed` say of lists.
use Rattle.std.proofs.Common.{◌≡◌, ◌≢◌, ℕ, ◌<◌, ◌≤◌, Bool, true, false, zero, suc, List, [], ◌∷◌, ◌++◌, length, take, drop, refl, ap, arith, nat_le, nat_lt}
use Rattle.std.specs.Prelude.{slice_index, Ok, Err, ◌==◌, ◌&&◌}
use Rattle.std.specs.List.{list_all}
use Rattle.std.proofs.lemmas.Bool.Decides.{nat_tests}
use Rattle.torus.specs.Filled.{filled}
use Rattle.torus.specs.Inside.{IsTorus, shape_of}
use Rattle.torus.specs.Shape.{product, IsAccepted}
use Rattle.torus.specs.Refusal.{mixed_of, is_radix, is_dims, are_below}
use Rattle.torus.specs.declared.fault.Fault.TheVariants.{Tiles, Count, Dateline}

and_parts : (a b : Bool) → (a && b) ≡ true → (a ≡ true) × (b ≡ true)
and_parts true b h = (refl, h)
and_parts false b h = (h, cc)

radix_bounds : (k : ℕ) → is_radix k ≡ true → (2 ≤ k) × (k ≤ 8)
radix_bounds k h =
    let parts = and_parts (nat_le 2 k) (nat_le k 8) h in
    (grind (arith, nat_tests, parts.0), grind (arith, nat_tests, parts.1))

-- each radix that passes is 2 to 8
pub radices_bounds : (ks : List ℕ) → list_all is_radix ks ≡ true → (d : ℕ) → d < length ks → (2 ≤ slice_index ks d) × (slice_index ks d ≤ 8)
radices_bounds [] h d low = absurd (omega arith)
radices_bounds (k ∷ ks) h zero low = radix_bounds k (and_parts (is_radix k) (list_all is_radix ks) h).0
radices_bounds (k ∷ ks) h (suc d) low = radices_bounds ks (and_parts (is_radix k) (list_all is_radix ks) h).1 d (omega arith)

pub datelines_bounds : (zs ks : List ℕ) → are_below zs ks ≡ true → length zs ≡ length ks → (d : ℕ) → d < length ks → slice_index zs d < slice_index ks d
datelines_bounds zs [] h e d low = absurd (omega arith)
datelines_bounds [] (k ∷ ks) h e d low = absurd (omega arith)
datelines_bounds (z ∷ zs) (k ∷ ks) h e zero low =
    let first : nat_lt z k ≡ true = (and_parts (nat_lt z k) (are_below zs ks) h).0 in grind (arith, nat_tests)
datelines_bounds (z ∷ zs) (k ∷ ks) h e (suc d) low =
    datelines_bounds zs ks (and_parts (nat_lt z k) (are_below zs ks) h).1 (omega arith) d (omega arith)

dims_test : (n : ℕ) → 1 ≤ n → n ≤ 3 → is_dims n ≡ true
dims_test n low high = grind (arith, nat_tests)

le_test : (a b : ℕ) → a ≤ b → nat_le a b ≡ true
le_test a b h = grind (arith, nat_tests)

gt_test : (a b : ℕ) → b < a → nat_le a b ≡ false
gt_test a b h = grind (arith, nat_tests)

eq_test : (a b : ℕ) → a ≡ b → (a == b) ≡ true
eq_test a b h = grind (arith, nat_tests)

ne_test : (a b : ℕ) → a ≢ b → (a == b) ≡ false
ne_test a b h = grind (arith, nat_tests)

pub mixed-tiles : (ks zs : List ℕ) → 1 ≤ length ks → length ks ≤ 3 → list_all is_radix ks ≡ true → 64 < product ks → mixed_of ks zs ≡ Err Tiles
mixed-tiles ks zs low high radices many = rw (dims_test (length ks) low high, radices, gt_test (product ks) 64 many) refl

pub mixed-count : (ks zs : List ℕ) → 1 ≤ length ks → length ks ≤ 3 → list_all is_radix ks ≡ true → product ks ≤ 64 → length zs ≢ length ks
    → mixed_of ks zs ≡ Err Count
mixed-count ks zs low high radices few other =
    rw (dims_test (length ks) low high, radices, le_test (product ks) 64 few, ne_test (length zs) (length ks) other) refl

pub mixed-dateline : (ks zs : List ℕ) → 1 ≤ length ks → length ks ≤ 3 → list_all is_radix ks ≡ true → product ks ≤ 64 → length zs ≡ length ks →
    are_below zs ks ≡ false → mixed_of ks zs ≡ Err Dateline
mixed-dateline ks zs low high radices few same above =
    rw (dims_test (length ks) low high, radices, le_test (product ks) 64 few, eq_test (length zs) (length ks) same, above) refl

pub mixed_ok : (ks zs : List ℕ) → 1 ≤ length ks → length ks ≤ 3 → list_all is_radix ks ≡ true → product ks ≤ 64 → length zs ≡ length ks →
    are_below zs ks ≡ true → mixed_of ks zs ≡ Ok (record { radices = ks; datelines = zs })
mixed_ok ks zs low high radices few same below =
    rw (dims_test (length ks) low high, radices, le_test (product ks) 64 few, eq_test (length zs) (length ks) same, below) refl

-- the list of three begins with the list
pub take-filled : (x : ℕ) (xs : List ℕ) → length xs ≤ 3 → take (length xs) (filled x xs) ≡ xs
take-filled x [] h = refl
take-filled x (a ∷ []) h = refl
take-filled x (a ∷ b ∷ []) h = refl
take-filled x (a ∷ b ∷ c ∷ []) h = refl
take-filled x (a ∷ b ∷ c ∷ d ∷ xs) h = absurd (omega arith)

pub accepted_mixed : (ks zs : List ℕ) → 1 ≤ length ks → length ks ≤ 3 → list_all is_radix ks ≡ true → product ks ≤ 64 → length zs ≡ length ks →
    are_below zs ks ≡ true → IsAccepted (record { radices = ks; datelines = zs })
accepted_mixed ks zs low high radices few same below = record {
  dims_low = low;
  dims_high = high;
  radix_low = λ d h. (radices_bounds ks radices d h).0;
  radix_high = λ d h. (radices_bounds ks radices d h).1;
  tiles = few;
  counts = same;
  dateline = datelines_bounds zs ks below same;
}

-- the fields that `Torus::mixed` gives are those of a torus
pub mixed_is_torus : (ks zs : List ℕ) → 1 ≤ length ks → length ks ≤ 3 → list_all is_radix ks ≡ true → product ks ≤ 64 → length zs ≡ length ks →
    are_below zs ks ≡ true → IsTorus (record { dims = length ks; radices = filled 1 ks; datelines = filled 0 zs })
mixed_is_torus ks zs low high radices few same below =
    let datelines : take (length ks) (filled 0 zs) ≡ zs = (rw (← same) (take-filled 0 zs (omega arith))) in
    let front : take (length ks) (filled 1 ks) ≡ ks = take-filled 1 ks high in
    record {
      accepted = rw (front, datelines) (accepted_mixed ks zs low high radices few same below);
      dims = ap length front;
      radices = ap (filled 1) front;
      datelines = ap (filled 0) datelines;
    }

-- a list copied over the front of three
pub over_three : (x : ℕ) (xs : List ℕ) → length xs ≤ 3 → xs ++ drop (length xs) (x ∷ x ∷ x ∷ []) ≡ filled x xs
over_three x [] h = refl
over_three x (a ∷ []) h = refl
over_three x (a ∷ b ∷ []) h = refl
over_three x (a ∷ b ∷ c ∷ []) h = refl
over_three x (a ∷ b ∷ c ∷ d ∷ xs) h = absurd (omega arith)

-- and the shape that they keep is that of the lists
pub shape_of-filled : (ks zs : List ℕ) → length ks ≤ 3 → length zs ≡ length ks →
    shape_of (record { dims = length ks; radices = filled 1 ks; datelines = filled 0 zs }) ≡ record { radices = ks; datelines = zs }
shape_of-filled ks zs high same =
    let datelines : take (length ks) (filled 0 zs) ≡ zs = (rw (← same) (take-filled 0 zs (omega arith))) in
    rw (take-filled 1 ks high, datelines) refl
