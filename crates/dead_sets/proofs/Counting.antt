-- How often a number stands in a list.
use Rattle.std.proofs.Common.{◌≡◌, ◌≢◌, inl, inr, ℕ, suc, ◌+◌, ◌<◌, not, Bool, cond, List, [], ◌∷◌, length, set, ap, arith, eq-eqb}
use Rattle.std.specs.Prelude.{slice_index, ◌==◌}
use Rattle.std.proofs.lemmas.Bool.{cases_eq, ne_eqb}
use Rattle.std.proofs.lemmas.List.Sums.{sum_by-set, sum_by-cons}
use Rattle.dead_sets.specs.Peeling.{times, not_zero}

-- 1 where two numbers are equal, or else 0
abbrev one : ℕ → ℕ → ℕ
one x o = cond (o == x) 1 0

one_same : (x o : ℕ) → o ≡ x → one x o ≡ 1
one_same x o e = ap (λ (b : Bool). cond {A = ℕ} b 1 0) (eq-eqb o x e)

one_other : (x o : ℕ) → (o ≡ x → ⊥) → one x o ≡ 0
one_other x o apart = ap (λ (b : Bool). cond {A = ℕ} b 1 0) (ne_eqb o x apart)

-- a number that stands somewhere
pub times_some : (x : ℕ) (os : List ℕ) (c : ℕ) → c < length os → slice_index os c ≡ x → 0 < times x os
times_some x os c low e =
    let s = sum_by-set (one x) os c (suc x) 0 low in
    let is = one_same x (slice_index os c) e in
    let isnt = one_other x (suc x) (λ same. absurd (omega arith)) in
    omega (arith, s, is, isnt)

pub times_from : (x : ℕ) (os : List ℕ) → 0 < times x os → (c : ℕ) × (c < length os) × (slice_index os c ≡ x)
times_from x [] some = absurd (omega arith)
times_from x (o ∷ os) some = elim (cases_eq o x) [
  | inl same ↦ (0, omega arith, same)
  | inr apart ↦
      let s = sum_by-cons (one x) o os in
      let other = one_other x o apart in
      let r = times_from x os (omega (arith, s, other)) in
      let low = r.1 in
      (suc r.0, omega arith, r.2)
]

-- where another number comes in the place of one
pub times_less : (x : ℕ) (os : List ℕ) (c v : ℕ) → c < length os → slice_index os c ≡ x → v ≢ x → times x (set os c v) + 1 ≡ times x os
times_less x os c v low e apart =
    let s = sum_by-set (one x) os c v 0 low in
    let is = one_same x (slice_index os c) e in
    let isnt = one_other x v apart in
    omega (arith, s, is, isnt)

pub times_other : (x : ℕ) (os : List ℕ) (c v : ℕ) → c < length os → slice_index os c ≢ x → v ≢ x → times x (set os c v) ≡ times x os
times_other x os c v low other apart =
    let s = sum_by-set (one x) os c v 0 low in
    let isnt = one_other x (slice_index os c) other in
    let nor = one_other x v apart in
    omega (arith, s, isnt, nor)

abbrev some : ℕ → ℕ
some l = cond (not (l == 0)) 1 0

some_is : (l : ℕ) → l ≢ 0 → some l ≡ 1
some_is l e = ap (λ (b : Bool). cond {A = ℕ} (not b) 1 0) (ne_eqb l 0 e)

none_is : (l : ℕ) → l ≡ 0 → some l ≡ 0
none_is l e = ap (λ (b : Bool). cond {A = ℕ} (not b) 1 0) (eq-eqb l 0 e)

pub zero_more : (ls : List ℕ) (x v : ℕ) → x < length ls → slice_index ls x ≢ 0 → v ≡ 0 → not_zero (set ls x v) + 1 ≡ not_zero ls
zero_more ls x v low e f =
    let s = sum_by-set some ls x v 0 low in
    let was = some_is (slice_index ls x) e in
    let is = none_is v f in
    omega (arith, s, was, is)

pub zero_same : (ls : List ℕ) (x v : ℕ) → x < length ls → slice_index ls x ≢ 0 → v ≢ 0 → not_zero (set ls x v) ≡ not_zero ls
zero_same ls x v low e f =
    let s = sum_by-set some ls x v 0 low in
    let was = some_is (slice_index ls x) e in
    let is = some_is v f in
    omega (arith, s, was, is)
