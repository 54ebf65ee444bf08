-- The shapes of reports.
use Rattle.std.proofs.Common.{◌≡◌, ℕ, zero, suc, ◌+◌, ◌<◌, ◌≤◌, Bool, true, false, List, [], ◌∷◌, Some, refl, ap, arith, slice_get}
use Rattle.std.specs.Prelude.{fold, max, nat_le, if◌then◌else◌}
use Rattle.std.proofs.lemmas.Bool.{leb-true}
use Rattle.std.proofs.lemmas.Option.{same_Some}
use Rattle.torus.specs.Shape.{Shape, tiles_of}
use Rattle.trace_text.specs.declared.issued.Issued.{Issued}
use Rattle.trace_answer.specs.Fitting.{processors_of, shape_for, AreFit}

-- what is so of a choice
choose : (n : ℕ) (b : Bool) (s u : Shape) → (b ≡ true → n ≤ tiles_of s) → n ≤ tiles_of u → n ≤ tiles_of (if b then s else u)
choose n true s u h k = h refl
choose n false s u h k = k

abbrev one : ℕ → ℕ → Shape
one k d = record { radices = k ∷ []; datelines = d ∷ [] }

abbrev two : ℕ → ℕ → ℕ → ℕ → Shape
two j k d e = record { radices = j ∷ k ∷ []; datelines = d ∷ e ∷ [] }

-- the shape for so many processors has as many tiles
pub enough : (n : ℕ) → n ≤ 64 → n ≤ tiles_of (shape_for n)
enough n l =
    choose n (nat_le n 2) (one 2 1) _ (λ h. leb-true n 2 h)
    (choose n (nat_le n 4) (one 4 3) _ (λ h. leb-true n 4 h)
    (choose n (nat_le n 8) (one 8 7) _ (λ h. leb-true n 8 h)
    (choose n (nat_le n 16) (two 4 4 3 3) _ (λ h. leb-true n 16 h)
    (choose n (nat_le n 32) (two 4 8 3 7) (two 8 8 7 7) (λ h. leb-true n 32 h) l))))

abbrev up : ℕ → Issued → ℕ
up n i = max n (i.processor + 1)

-- the greatest processor
up_least : (issued : List Issued) (n : ℕ) → n ≤ fold up n issued
up_least [] n = omega arith
up_least (i ∷ is) n = let l = up_least is (max n (i.processor + 1)) in omega arith

up_most : (issued : List Issued) (n : ℕ) → n ≤ 64 → ((k : ℕ) (i : Issued) → slice_get issued k ≡ Some i → i.processor < 64) → fold up n issued ≤ 64
up_most [] n l h = l
up_most (i ∷ is) n l h = up_most is (max n (i.processor + 1)) (let m = h 0 i refl in omega arith) (λ k. h (suc k))

up_there : (issued : List Issued) (n k : ℕ) (i : Issued) → slice_get issued k ≡ Some i → i.processor < fold up n issued
up_there [] n k i h = absurd (cc)
up_there (j ∷ is) n zero i h =
    let same : j.processor ≡ i.processor = ap (λ (u : Issued). u.processor) (same_Some j i h) in
    let l = up_least is (max n (j.processor + 1)) in
    omega arith
up_there (j ∷ is) n (suc k) i h = up_there is (max n (j.processor + 1)) k i h

pub processor_below : (issued : List Issued) → AreFit issued → (k : ℕ) (i : Issued) → slice_get issued k ≡ Some i
    → i.processor < tiles_of (shape_for (processors_of issued))
processor_below issued fit k i h =
    let there : i.processor < processors_of issued = up_there issued 0 k i h in
    let most : processors_of issued ≤ 64 = up_most issued 0 (omega arith) (λ m j g. (fit m j g).0) in
    let tiles = enough (processors_of issued) most in
    omega arith
