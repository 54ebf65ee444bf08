-- The digits of a number one after the other, by division by the radices in turn.
use Rattle.std.proofs.Common.{◌≡◌, ℕ, ◌+◌, ◌*◌, ◌/◌, ◌<◌, zero, suc, List, [], ◌∷◌, length, take, sym, ◌∙◌, ap, subst, arith, inl, inr}
use Rattle.std.specs.Prelude.{slice_index}
use Rattle.std.proofs.Math.Nat.{div-div-eq-div-mul, mul_comm, mul_assoc}
use Rattle.std.proofs.lemmas.Bool.{cases_eq}
use Rattle.torus.specs.Shape.{Shape, digit_of, product}

-- the product of one factor more
pub taken_more : (ks : List ℕ) (d : ℕ) → d < length ks → product (take (suc d) ks) ≡ product (take d ks) * slice_index ks d
taken_more [] d h = absurd (omega arith)
taken_more (k ∷ ks) zero h = mul_comm k 1
taken_more (k ∷ ks) (suc d) h = ap (λ n. k * n) (taken_more ks d (omega arith)) ∙ sym (mul_assoc k (product (take d ks)) (slice_index ks d))

-- what the radices below one dimension more leave of a number
pub divided_more : (ks : List ℕ) (t d : ℕ) → d < length ks
    → (t / product (take d ks)) / slice_index ks d ≡ t / product (take (d + 1) ks)
divided_more ks t d h =
    let next : suc d ≡ d + 1 = omega arith in
    div-div-eq-div-mul t (product (take d ks)) (slice_index ks d) ∙ ap (λ n. t / n) (sym (taken_more ks d h))
    ∙ ap (λ n. t / product (take n ks)) next

-- digits that agree below a dimension and in it agree below the next one
pub same_further : (s : Shape) (t u d : ℕ) → ((e : ℕ) → e < d → digit_of s t e ≡ digit_of s u e) → digit_of s t d ≡ digit_of s u d
    → (e : ℕ) → e < d + 1 → digit_of s t e ≡ digit_of s u e
same_further s t u d before here e low = elim (cases_eq e d) [ inl same ↦ subst (λ n. digit_of s t n ≡ digit_of s u n) (sym same) here | inr other ↦ before e (omega (arith, other)) ]
