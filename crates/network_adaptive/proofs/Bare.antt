-- Channels without a choice that is marked.
use Rattle.std.proofs.Common.{◌≡◌, inl, inr, ℕ, suc, ◌+◌, ◌<◌, Bool, true, false, List, [], sym, ◌∙◌, ap, subst, arith, eq-eqb}
use Rattle.std.specs.Prelude.{nat_lt, slice_index, ◌==◌}
use Rattle.std.proofs.lemmas.Bool.{cases_lt, cases_Bool, eqb-true, ltb-true, lt-ltb, and_parts, and_from}
use Rattle.network_judge.specs.declared.table.Kind.{Kind}
use Rattle.network_judge.specs.Marks.{is_marked_at}
use Rattle.network_adaptive.specs.Spread.{names, opens}
use Rattle.network_adaptive.specs.Flags.{escapes_to, IsEscape, IsBare}
use Rattle.network_adaptive.proofs.Flags.{any_at, any_from}

-- a choice that is marked
pub escapes_at : (count : ℕ) (choices : List ℕ) (start ways : ℕ) (marks : List Bool) (k y : ℕ) → k < ways → slice_index choices (start + k) ≡ y
    → y < count → is_marked_at marks y ≡ true → escapes_to count choices start ways marks y ≡ true
escapes_at count choices start ways marks k y low e inner up =
    and_from (opens count choices start ways [] y) (is_marked_at marks y)
    (and_from (nat_lt y count) (names choices start ways y) (lt-ltb y count inner)
    (any_at (λ k. slice_index choices (start + k) == y) ways k low (eq-eqb (slice_index choices (start + k)) y e)))
    up

pub record IsChosen (count : ℕ) (choices : List ℕ) (start ways : ℕ) (marks : List Bool) (y : ℕ) : Type 0 where
  pub place : ℕ
  pub low : place < ways
  pub is : slice_index choices (start + place) ≡ y
  pub inside : y < count
  pub up : is_marked_at marks y ≡ true

pub escapes_from : (count : ℕ) (choices : List ℕ) (start ways : ℕ) (marks : List Bool) (y : ℕ) → escapes_to count choices start ways marks y ≡ true
    → IsChosen count choices start ways marks y
escapes_from count choices start ways marks y e =
    let a = and_parts (opens count choices start ways [] y) (is_marked_at marks y) e in
    let b = and_parts (nat_lt y count) (names choices start ways y) a.0 in
    let w = any_from (λ k. slice_index choices (start + k) == y) ways b.1 in
    record { place = w.0; low = w.1; is = eqb-true (slice_index choices (start + w.0)) y w.2; inside = ltb-true y count b.0; up = a.1 }

-- the choices so far aren't marked
abbrev pub NoneSo : ℕ → List ℕ → ℕ → ℕ → List Bool → Type 0
NoneSo count choices start m marks = (k : ℕ) → k < m → slice_index choices (start + k) < count → is_marked_at marks (slice_index choices (start + k)) ≡ false

pub none_more : (count : ℕ) (choices : List ℕ) (start k m : ℕ) (marks : List Bool) → m ≡ suc k
    → (slice_index choices (start + k) < count → is_marked_at marks (slice_index choices (start + k)) ≡ false)
    → NoneSo count choices start k marks → NoneSo count choices start m marks
none_more count choices start k m marks e here before i l = elim (cases_lt i k) [
  | inl low ↦ before i low
  | inr high ↦ let same : k ≡ i = omega arith in
      subst (λ z. slice_index choices (start + z) < count → is_marked_at marks (slice_index choices (start + z)) ≡ false) same here
]

pub none_escapes : (count : ℕ) (choices : List ℕ) (start ways m : ℕ) (marks : List Bool) → m ≡ ways → NoneSo count choices start m marks
    → (y : ℕ) → escapes_to count choices start ways marks y ≡ false
none_escapes count choices start ways m marks e none y = elim (cases_Bool (escapes_to count choices start ways marks y)) [
  | inl is ↦ (let c = escapes_from count choices start ways marks y is in
      let low = c.low in
      let down = none c.place (omega arith) (subst (λ z. z < count) (sym c.is) c.inside) in
      let bad : true ≡ false = sym c.up ∙ (ap (is_marked_at marks) (sym c.is) ∙ down) in
      absurd (cc))
  | inr is_not ↦ is_not
]

pub found : (count : ℕ) (choices : List ℕ) (start ways : ℕ) (marks : List Bool) (y : ℕ) → escapes_to count choices start ways marks y ≡ true
    → IsEscape count choices start ways marks true
found count choices start ways marks y e = record { some = λ f. (y, e); none = λ f. cc }

pub not_found : (count : ℕ) (choices : List ℕ) (start ways : ℕ) (marks : List Bool) → ((y : ℕ) → escapes_to count choices start ways marks y ≡ false)
    → IsEscape count choices start ways marks false
not_found count choices start ways marks none = record { some = λ f. cc; none = λ f. none }

-- no channel below m is bare
abbrev pub NoBareSo : List Kind → List ℕ → ℕ → ℕ → List Bool → List Bool → ℕ → Type 0
NoBareSo kinds choices base ways marks flags m = (x : ℕ) → x < m → IsBare kinds choices base ways marks flags x → ⊥

pub no_bare_more : (kinds : List Kind) (choices : List ℕ) (base ways : ℕ) (marks flags : List Bool) (x m : ℕ) → m ≡ suc x
    → (IsBare kinds choices base ways marks flags x → ⊥) → NoBareSo kinds choices base ways marks flags x → NoBareSo kinds choices base ways marks flags m
no_bare_more kinds choices base ways marks flags x m e here before z l = elim (cases_lt z x) [
  | inl low ↦ before z low
  | inr high ↦ let same : x ≡ z = omega arith in subst (λ v. IsBare kinds choices base ways marks flags v → ⊥) same here
]
