-- What holds of all numbers below one.
use Rattle.std.proofs.Common.{◌≡◌, inl, inr, ℕ, ◌+◌, ◌<◌, subst, arith}
use Rattle.std.proofs.lemmas.Bool.{cases_lt}

-- it holds of one more
pub and_next : (P : ℕ → Type 0) (n : ℕ) → ((m : ℕ) → m < n → P m) → P n → (m : ℕ) → m < n + 1 → P m
and_next P n before here m low =
    elim (cases_lt m n) [
      | inl less ↦ before m less
      | inr more ↦ (let same : n ≡ m = omega (arith, low, more) in subst P same here)
    ]
