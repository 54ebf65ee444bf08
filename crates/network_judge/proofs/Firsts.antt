-- Whether a test passes below a number, and the first number that fails it.
use Rattle.std.proofs.Common.{◌≡◌, inl, inr, ℕ, zero, suc, ◌<◌, ◌||◌, Bool, true, false, cond}
use Rattle.std.proofs.Common.{refl, ◌∙◌, ap, arith}
use Rattle.std.proofs.lemmas.Bool.{cases_lt, or_left, or_right}

-- whether a test passes below n
abbrev pub any : (ℕ → Bool) → ℕ → Bool
any p zero = false
any p (suc n) = p n || any p n

pub any_at : (p : ℕ → Bool) (n k : ℕ) → k < n → p k ≡ true → any p n ≡ true
any_at p zero k l e = absurd (omega arith)
any_at p (suc n) k l e =
    elim (cases_lt k n) [
      | inl low ↦ or_right (p n) (any p n) (any_at p n k low e)
      | inr high ↦ let same : n ≡ k = omega arith in or_left (p n) (any p n) (ap p same ∙ e)
    ]

pub any_from : (p : ℕ → Bool) (n : ℕ) → any p n ≡ true → (k : ℕ) × (k < n) × (p k ≡ true)
any_from p zero e = cc
any_from p (suc n) e = by (p n) refl (any_from p n) e
  where
    by : (b : Bool) → p n ≡ b → (any p n ≡ true → (k : ℕ) × (k < n) × (p k ≡ true)) → (b || any p n) ≡ true → (k : ℕ) × (k < suc n) × (p k ≡ true)
    by true f rest g = (n, omega arith, f)
    by false f rest g = let r = rest g in let low = r.1 in (r.0, omega arith, r.2)

-- the first number below n that fails a test, or n
abbrev pub first : (ℕ → Bool) → ℕ → ℕ
first p zero = zero
first p (suc n) = cond (p 0) (suc (first (λ k. p (suc k)) n)) 0

pub data IsFirst (p : ℕ → Bool) (n k : ℕ) : Type 0 where
  fails : k < n → p k ≡ false → ((m : ℕ) → m < k → p m ≡ true) → IsFirst p n k
  none : k ≡ n → ((m : ℕ) → m < k → p m ≡ true) → IsFirst p n k

pub is_first : (p : ℕ → Bool) (n : ℕ) → IsFirst p n (first p n)
is_first p zero = none refl (λ m l. absurd (omega arith))
is_first p (suc n) = by (p 0) refl (is_first (λ k. p (suc k)) n)
  where
    by : (b : Bool) → p 0 ≡ b → IsFirst (λ k. p (suc k)) n (first (λ k. p (suc k)) n) → IsFirst p (suc n) (cond b (suc (first (λ k. p (suc k)) n)) 0)
    by false e r = fails (omega arith) e (λ m l. absurd (omega arith))
    by true e (fails l f g) = fails (omega arith) f (before e g)
      where
        before : p 0 ≡ true → {k : ℕ} → ((m : ℕ) → m < k → p (suc m) ≡ true) → (m : ℕ) → m < suc k → p m ≡ true
        before e g zero l = e
        before e g (suc m) l = g m (omega arith)
    by true e (none l g) = none (omega arith) (before e g)
      where
        before : p 0 ≡ true → {k : ℕ} → ((m : ℕ) → m < k → p (suc m) ≡ true) → (m : ℕ) → m < suc k → p m ≡ true
        before e g zero l = e
        before e g (suc m) l = g m (omega arith)
