-- What stands at an address once another one came to the list.
use Rattle.std.proofs.Common.{◌≡◌, ◌≢◌, ⊎_elim, ℕ, ◌<◌, ◌≤◌, List, [], ◌∷◌, Some, refl, sym, arith, ap, ◌∙◌}
use Rattle.std.proofs.lemmas.Bool.{cases_lt, cases_eq}
use Rattle.std.proofs.lemmas.Bool.Decides.{nat_tests}
use Rattle.std.specs.Ordering.{nat_cmp}
use Rattle.std.specs.declared.cmp.Ordering.TheVariants.{Less, Equal, Greater}
use Rattle.trace_lines.specs.Head.{value_in, with_value}

cmp_less : (a b : ℕ) → a < b → nat_cmp a b ≡ Less
cmp_less a b l = grind (arith, nat_tests)

cmp_same : (a : ℕ) → nat_cmp a a ≡ Equal
cmp_same a = grind (arith, nat_tests)

cmp_more : (a b : ℕ) → b < a → nat_cmp a b ≡ Greater
cmp_more a b l = grind (arith, nat_tests)

-- one of the three
data IsCompared (a b : ℕ) : Type 0 where
  IsLess : nat_cmp a b ≡ Less → IsCompared a b
  IsSame : a ≡ b → nat_cmp a b ≡ Equal → IsCompared a b
  IsMore : nat_cmp a b ≡ Greater → IsCompared a b

compared : (a b : ℕ) → IsCompared a b
compared a b = ⊎_elim
    (λ (l : a < b). IsLess (cmp_less a b l))
    (λ (m : b ≤ a). ⊎_elim
    (λ (e : a ≡ b). IsSame e (ap (λ (n : ℕ). nat_cmp a n) (sym e) ∙ cmp_same a))
    (λ (n : a ≢ b). IsMore (cmp_more a b (omega arith)))
    (cases_eq a b))
    (cases_lt a b)

pub value_new : {X : Type 0} (es : List (ℕ × X)) (k : ℕ) (v : X) → value_in (with_value es k v) k ≡ Some v
value_new [] k v = rw (cmp_same k) refl
value_new (e ∷ es) k v = elim (compared k e.0) [
  | IsLess l ↦ rw (l, cmp_same k) refl
  | IsSame s q ↦ rw (q, q) refl
  | IsMore m ↦ rw (m, m) (value_new es k v)
]

pub value_old : {X : Type 0} (es : List (ℕ × X)) (k : ℕ) (v : X) (a : ℕ) → a ≢ k
    → value_in (with_value es k v) a ≡ value_in es a
value_old [] k v a ne = elim (compared a k) [
  | IsLess l ↦ rw l refl
  | IsSame s q ↦ absurd (ne s)
  | IsMore m ↦ rw m refl
]
value_old (e ∷ es) k v a ne = elim (compared k e.0) [
  | IsLess l ↦ elim (compared a k) [
    | IsLess m ↦ rw (l, m) refl
    | IsSame s q ↦ absurd (ne s)
    | IsMore m ↦ rw (l, m) refl
  ]
  | IsSame s q ↦ elim (compared a e.0) [
    | IsLess m ↦ rw (q, m) refl
    | IsSame t p ↦ absurd (ne (t ∙ sym s))
    | IsMore m ↦ rw (q, m) refl
  ]
  | IsMore m ↦ elim (compared a e.0) [
    | IsLess l ↦ rw (m, l) (value_old es k v a ne)
    | IsSame t p ↦ rw (m, p) refl
    | IsMore l ↦ rw (m, l) (value_old es k v a ne)
  ]
]
