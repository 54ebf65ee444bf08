-- What is left of a list when an element is removed.
use Rattle.std.proofs.Common.{◌≡◌, ◌≢◌, ℕ, zero, suc, ◌<◌, List, [], ◌∷◌, Some, refl, ap, arith, slice_get}
use Rattle.std.specs.Prelude.{remove}

-- where the k-th of what is left stood
abbrev pub stood : ℕ → ℕ → ℕ
stood zero k = suc k
stood (suc j) zero = zero
stood (suc j) (suc k) = suc (stood j k)

pub removed_is : {A : Type 0} (xs : List A) (j k : ℕ) → slice_get (remove xs j) k ≡ slice_get xs (stood j k)
removed_is [] zero k = refl
removed_is [] (suc j) k = refl
removed_is (x ∷ xs) zero k = refl
removed_is (x ∷ xs) (suc j) zero = refl
removed_is (x ∷ xs) (suc j) (suc k) = removed_is xs j k

pub stood_apart : (j k l : ℕ) → stood j k ≡ stood j l → k ≡ l
stood_apart zero k l h = omega arith
stood_apart (suc j) zero zero h = refl
stood_apart (suc j) zero (suc l) h = absurd (omega arith)
stood_apart (suc j) (suc k) zero h = absurd (omega arith)
stood_apart (suc j) (suc k) (suc l) h = ap suc (stood_apart j k l (omega arith))

pub stood_other : (j k : ℕ) → stood j k ≡ j → ⊥
stood_other zero k h = omega arith
stood_other (suc j) zero h = omega arith
stood_other (suc j) (suc k) h = stood_other j k (omega arith)

-- what is left keeps its order
pub stood_rises : (j k l : ℕ) → k < l → stood j k < stood j l
stood_rises zero k l h = omega arith
stood_rises (suc j) k zero h = absurd (omega arith)
stood_rises (suc j) zero (suc l) h = omega arith
stood_rises (suc j) (suc k) (suc l) h = let low = stood_rises j k l (omega arith) in omega arith

-- what isn't removed is still there
pub still_there : {A : Type 0} (xs : List A) (j k : ℕ) (x : A) → slice_get xs k ≡ Some x → k ≢ j → (m : ℕ) × (slice_get (remove xs j) m ≡ Some x)
still_there [] j k x h other = absurd (cc)
still_there (y ∷ xs) zero zero x h other = absurd (other refl)
still_there (y ∷ xs) zero (suc k) x h other = (k, h)
still_there (y ∷ xs) (suc j) zero x h other = (0, h)
still_there (y ∷ xs) (suc j) (suc k) x h other =
    let low = still_there xs j k x h (λ e. other (ap suc e)) in (suc low.0, low.1)
