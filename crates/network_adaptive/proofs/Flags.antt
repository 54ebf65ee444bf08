-- Flags that are raised, and what is up then.
use Rattle.std.proofs.Common.{◌≡◌, ◌≢◌, ◌⊎◌, inl, inr, ⊎_elim, ℕ, zero, suc, ◌+◌, ◌<◌, ◌||◌, not, Bool, true, false, cond, List, [], ◌∷◌, length, set, refl, sym, ◌∙◌, ap, arith}
use Rattle.std.proofs.lemmas.Bool.{cases_eq, cases_lt, or_left, or_right}
use Rattle.std.proofs.lemmas.List.{get_or-set_same, get_or-set_other}
use Rattle.std.proofs.lemmas.List.Sums.{sum_by-set}
use Rattle.network_judge.specs.Marks.{is_marked_at}
use Rattle.network_adaptive.specs.Spread.{any_below, down}

pub or_cases : (a b : Bool) → (a || b) ≡ true → (a ≡ true) ⊎ (b ≡ true)
or_cases true b e = inl refl
or_cases false b e = inr e

pub not_true : (b : Bool) → not b ≡ true → b ≡ false
not_true true e = cc
not_true false e = refl

pub true_not : (b : Bool) → b ≡ false → not b ≡ true
true_not true e = cc
true_not false e = refl

-- a test that passes somewhere below n
pub any_at : (p : ℕ → Bool) (n k : ℕ) → k < n → p k ≡ true → any_below p n ≡ true
any_at p zero k l e = absurd (omega arith)
any_at p (suc n) k l e =
    elim (cases_lt k n) [
      | inl low ↦ or_right (p n) (any_below p n) (any_at p n k low e)
      | inr high ↦ let same : n ≡ k = omega arith in or_left (p n) (any_below p n) (ap p same ∙ e)
    ]

pub any_from : (p : ℕ → Bool) (n : ℕ) → any_below p n ≡ true → (k : ℕ) × (k < n) × (p k ≡ true)
any_from p zero e = cc
any_from p (suc n) e = ⊎_elim
    (λ (a : p n ≡ true). (n, omega arith, a))
    (λ (b : any_below p n ≡ true). let r = any_from p n b in let low = r.1 in (r.0, omega arith, r.2))
    (or_cases (p n) (any_below p n) e)

-- a raised flag
pub set_here : (flags : List Bool) (y : ℕ) → y < length flags → is_marked_at (set flags y true) y ≡ true
set_here flags y low = get_or-set_same flags y true false low

pub set_other : (flags : List Bool) (y z : ℕ) → z ≢ y → is_marked_at (set flags y true) z ≡ is_marked_at flags z
set_other flags y z apart = get_or-set_other flags y z true false apart

pub set_keeps : (flags : List Bool) (y z : ℕ) → y < length flags → is_marked_at flags z ≡ true → is_marked_at (set flags y true) z ≡ true
set_keeps flags y z low e = elim (cases_eq z y) [
  | inl same ↦ ap (is_marked_at (set flags y true)) same ∙ set_here flags y low
  | inr apart ↦ set_other flags y z apart ∙ e
]

pub set_only : (flags : List Bool) (y z : ℕ) → is_marked_at (set flags y true) z ≡ true → (z ≡ y) ⊎ (is_marked_at flags z ≡ true)
set_only flags y z e = elim (cases_eq z y) [
  | inl same ↦ inl same
  | inr apart ↦ inr (sym (set_other flags y z apart) ∙ e)
]

pub fewer_down : (flags : List Bool) (y : ℕ) → y < length flags → is_marked_at flags y ≡ false → down (set flags y true) + 1 ≡ down flags
fewer_down flags y low e =
    let s = sum_by-set (λ (b : Bool). cond (not b) 1 0) flags y true false low in
    let was : cond {A = ℕ} (not (is_marked_at flags y)) 1 0 ≡ 1 = ap (λ b. cond {A = ℕ} (not b) 1 0) e in
    omega (arith, s, was)

-- a flag that is up is there
pub up_inside : (flags : List Bool) (x : ℕ) → is_marked_at flags x ≡ true → x < length flags
up_inside [] x e = cc
up_inside (b ∷ flags) zero e = omega arith
up_inside (b ∷ flags) (suc x) e = let r = up_inside flags x e in omega arith
