-- Operations of which each is of no lower processor than the one before it.
use Rattle.std.proofs.Common.{◌≡◌, inl, inr, ℕ, zero, suc, ◌+◌, ◌<◌, ◌≤◌, List, refl, subst, ap, arith}
use Rattle.std.proofs.lemmas.Bool.{cases_lt}
use Rattle.memory_models.specs.declared.kinds.Operation.{Operation}
use Rattle.memory_models.specs.Trace.{operation_at}

-- one operation more
pub grouped_more : (ops : List Operation) (n : ℕ)
    → ((x y : ℕ) → x ≤ y → y < n → (operation_at ops x).processor ≤ (operation_at ops y).processor)
    → ((x : ℕ) → x + 1 ≡ n → (operation_at ops x).processor ≤ (operation_at ops n).processor)
    → (x y : ℕ) → x ≤ y → y < n + 1 → (operation_at ops x).processor ≤ (operation_at ops y).processor
grouped_more ops n so next x y below low = elim (cases_lt y n) [
  | inl less ↦ so x y below less
  | inr not ↦ (let same : n ≡ y = omega (arith, low, not) in
      subst (λ z. (operation_at ops x).processor ≤ (operation_at ops z).processor) same (last n refl))
]
  where
    last : (m : ℕ) → n ≡ m → (operation_at ops x).processor ≤ (operation_at ops n).processor
    last zero is =
        let e : x ≡ n = omega (arith, below, low, is) in
        let also = ap (λ z. (operation_at ops z).processor) e in
        omega (arith, also)
    last (suc m) is = elim (cases_lt x n) [
      | inl less ↦ (let one = so x m (omega (arith, less, is)) (omega (arith, is)) in
          let two = next m (omega (arith, is)) in
          omega (arith, one, two))
      | inr not ↦ (let e : x ≡ n = omega (arith, not, below, low) in
          let also = ap (λ z. (operation_at ops z).processor) e in
          omega (arith, also))
    ]

pub words_more : (ops : List Operation) (words n : ℕ) → ((x : ℕ) → x < n → (operation_at ops x).word < words) → (operation_at ops n).word < words
    → (x : ℕ) → x < n + 1 → (operation_at ops x).word < words
words_more ops words n so one x low = elim (cases_lt x n) [
  | inl less ↦ so x less
  | inr not ↦ (let same : n ≡ x = omega (arith, low, not) in subst (λ z. (operation_at ops z).word < words) same one)
]
