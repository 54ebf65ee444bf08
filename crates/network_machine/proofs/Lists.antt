-- Lists of flits.
use Rattle.std.proofs.Common.{◌≡◌, ℕ, ◌<◌, List, [], ◌∷◌, length, refl, arith}

-- a list that isn't empty has a first item
pub first_of : (xs : List ℕ) → 0 < length xs → (x : ℕ) × (more : List ℕ) × (xs ≡ x ∷ more)
first_of [] some = absurd (omega arith)
first_of (x ∷ xs) some = (x, xs, refl)
