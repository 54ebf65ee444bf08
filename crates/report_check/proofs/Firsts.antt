-- The first that is found for some numbers.
use Rattle.std.proofs.Common.{◌≡◌, ℕ, ◌+◌, ◌-◌, ◌<◌, ◌≤◌, suc, Option, Some, None, ap, sym, ◌∙◌, arith}
use Rattle.report_check.specs.Lists.{first_or, first_from}

-- the next number, and those behind it
pub first_from-next : {X : Type 0} (at : ℕ → Option X) (n end : ℕ) → n < end → first_from at n (end - n) ≡ first_or (at n) (first_from at (n + 1) (end - (n + 1)))
first_from-next at n end low =
    let e : end - n ≡ suc (end - (n + 1)) = omega arith in ap (λ left. first_from at n left) e

-- the next number has it
pub first_from-hit : {X : Type 0} (at : ℕ → Option X) (n end : ℕ) (x : X) (all : Option X) → n < end → at n ≡ Some x → first_from at n (end - n) ≡ all → Some x ≡ all
first_from-hit at n end x all low hit is =
    sym (ap (λ first. first_or first (first_from at (n + 1) (end - (n + 1)))) hit) ∙ sym (first_from-next at n end low) ∙ is

-- the next number has none
pub first_from-miss : {X : Type 0} (at : ℕ → Option X) (n end : ℕ) (all : Option X) → n < end → at n ≡ None → first_from at n (end - n) ≡ all
    → first_from at (n + 1) (end - (n + 1)) ≡ all
first_from-miss at n end all low miss is =
    sym (ap (λ first. first_or first (first_from at (n + 1) (end - (n + 1)))) miss) ∙ sym (first_from-next at n end low) ∙ is

-- no number is left
pub first_from-past : {X : Type 0} (at : ℕ → Option X) (n end : ℕ) → end ≤ n → first_from at n (end - n) ≡ None
first_from-past at n end past = let e : end - n ≡ 0 = omega arith in ap (λ left. first_from at n left) e

-- the first number
pub first_from-start : {X : Type 0} (at : ℕ → Option X) (n : ℕ) → first_from at 0 (n - 0) ≡ first_from at 0 n
first_from-start at n = let e : n - 0 ≡ n = omega arith in ap (λ left. first_from at 0 left) e
