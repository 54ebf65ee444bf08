-- The order of inputs behind the one that was granted last, and that grants in this order go round.
use Rattle.std.proofs.Common.{◌≡◌, ◌⊎◌, inl, inr, ℕ, ◌+◌, ◌<◌, ◌≤◌, Bool, true, false, cond, List, [], ◌∷◌, length, Option, Some, None, refl, sym, ◌∙◌, ap, subst, arith}
use Rattle.std.specs.Prelude.{◌==◌, ◌&&◌, ◌||◌, nat_lt, nat_le}
use Rattle.std.proofs.lemmas.Bool.{cases_Bool, or_cases, both_ways, eq-eqb, eqb-true, ltb-true, ltb-false, leb-true, leb-false}
use Rattle.std.proofs.lemmas.Option.{same_Some, none-some}
use Rattle.network_rounds.specs.Arbiters.{comes_before, nearer, first_among}
use Rattle.network_rounds.specs.Fairness.{Grant, has_input, AreGrantsInTurn, AskAtEach, is_granted, GoRound}

not_false : (b : Bool) → (b ≡ false → ⊥) → b ≡ true
not_false true isn = refl
not_false false isn = absurd (isn refl)

not_true : (b : Bool) → (b ≡ true → ⊥) → b ≡ false
not_true true isn = absurd (isn refl)
not_true false isn = refl

-- what the order says in numbers
abbrev Earlier : ℕ → ℕ → ℕ → Type 0
Earlier last x z = ((last < x) × (z ≤ last)) ⊎ (((last < x) × (x < z)) ⊎ ((x ≤ last) × (z ≤ last) × (x < z)))

abbrev NotEarlier : ℕ → ℕ → ℕ → Type 0
NotEarlier last x z = ((last < x) × (last < z) × (z ≤ x)) ⊎ (((x ≤ last) × (last < z)) ⊎ ((x ≤ last) × (z ≤ last) × (z ≤ x)))

earlier : (last x z : ℕ) → comes_before last x z ≡ true → Earlier last x z
earlier last x z = by (nat_lt last x) (nat_le z last) (nat_lt x z) refl refl refl
  where
    by : (p q r : Bool) → nat_lt last x ≡ p → nat_le z last ≡ q → nat_lt x z ≡ r → cond p (q || r) (q && r) ≡ true → Earlier last x z
    by true true r a b c is = inl (ltb-true last x a, leb-true z last b)
    by true false true a b c is = inr (inl (ltb-true last x a, ltb-true x z c))
    by true false false a b c is = absurd (both_ways false refl is)
    by false true true a b c is = inr (inr (ltb-false last x a, leb-true z last b, ltb-true x z c))
    by false true false a b c is = absurd (both_ways false refl is)
    by false false r a b c is = absurd (both_ways false refl is)

not_earlier : (last x z : ℕ) → comes_before last x z ≡ false → NotEarlier last x z
not_earlier last x z = by (nat_lt last x) (nat_le z last) (nat_lt x z) refl refl refl
  where
    by : (p q r : Bool) → nat_lt last x ≡ p → nat_le z last ≡ q → nat_lt x z ≡ r → cond p (q || r) (q && r) ≡ false → NotEarlier last x z
    by true true r a b c is = absurd (both_ways true is refl)
    by true false true a b c is = absurd (both_ways true is refl)
    by true false false a b c is = inl (ltb-true last x a, leb-false z last b, ltb-false x z c)
    by false true true a b c is = absurd (both_ways true is refl)
    by false true false a b c is = inr (inr (ltb-false last x a, leb-true z last b, ltb-false x z c))
    by false false r a b c is = inr (inl (ltb-false last x a, leb-false z last b))

-- no input comes before itself
irreflexive : (last x : ℕ) → comes_before last x x ≡ false
irreflexive last x = not_true (comes_before last x x) (λ is. (let e = earlier last x x is in omega (arith, e)))

not_before_over : (last a b c : ℕ) → comes_before last a b ≡ false → comes_before last b c ≡ false → comes_before last a c ≡ false
not_before_over last a b c h k = not_true (comes_before last a c) (λ is.
    (let e = earlier last a c is in
    let f = not_earlier last a b h in
    let g = not_earlier last b c k in
    omega (arith, e, f, g)))

before_not : (last a b c : ℕ) → comes_before last a b ≡ true → comes_before last a c ≡ false → comes_before last b c ≡ false
before_not last a b c h k = not_true (comes_before last b c) (λ is.
    (let e = earlier last b c is in
    let f = earlier last a b h in
    let g = not_earlier last a c k in
    omega (arith, e, f, g)))

-- an input that another one doesn't come before is that one, or comes before it
comes_or_is : (last t x : ℕ) → comes_before last x t ≡ false → (t ≡ x → ⊥) → comes_before last t x ≡ true
comes_or_is last t x h apart = not_false (comes_before last t x) (λ is.
    (let e = not_earlier last t x is in
    let f = not_earlier last x t h in
    let same : t ≡ x = omega (arith, e, f) in
    apart same))

-- what stands between the one that is granted and an input stood before that input already
between_before : (last t x z : ℕ) → comes_before last t x ≡ true → comes_before t z x ≡ true → comes_before last z x ≡ true
between_before last t x z h k = not_false (comes_before last z x) (λ is.
    (let e = not_earlier last z x is in
    let f = earlier last t x h in
    let g = earlier t z x k in
    omega (arith, e, f, g)))

no_more_before : (t x : ℕ) → comes_before t t x ≡ false
no_more_before t x = not_true (comes_before t t x) (λ is. (let e = earlier t t x is in omega (arith, e)))

-- the nearer of two: none of both comes before it
near : (last : ℕ) (first : Option ℕ) (i t : ℕ) → comes_before last (nearer last first i) t ≡ false
    → (comes_before last i t ≡ false) × ((z : ℕ) → first ≡ Some z → comes_before last z t ≡ false)
near last None i t h = (h, λ z is. absurd (none-some z is))
near last (Some f) i t h = by (comes_before last i f) refl h
  where
    by : (b : Bool) → comes_before last i f ≡ b → comes_before last (cond b i f) t ≡ false
        → (comes_before last i t ≡ false) × ((z : ℕ) → Some f ≡ Some z → comes_before last z t ≡ false)
    by true is e = (e, λ z same. subst (λ (w : ℕ). comes_before last w t ≡ false) (same_Some f z same) (before_not last i f t is e))
    by false is e = (not_before_over last i f t is e, λ z same. subst (λ (w : ℕ). comes_before last w t ≡ false) (same_Some f z same) e)

first_of : (last : ℕ) (first : Option ℕ) (inputs : List ℕ) (t : ℕ) → first_among last first inputs ≡ Some t
    → ((z : ℕ) → has_input z inputs ≡ true → comes_before last z t ≡ false) × ((z : ℕ) → first ≡ Some z → comes_before last z t ≡ false)
first_of last first [] t is = (
  λ z here. absurd (both_ways false refl here),
  λ z same. subst (λ (w : ℕ). comes_before last w t ≡ false) (same_Some t z (sym is ∙ same)) (irreflexive last t),
)
first_of last first (i ∷ inputs) t is =
    (let rest = first_of last (Some (nearer last first i)) inputs t is in
    let both = near last first i t (rest.1 (nearer last first i) refl) in (
      λ z here. elim (or_cases (i == z) (has_input z inputs) here) [
        | inl same ↦ subst (λ (w : ℕ). comes_before last w t ≡ false) (eqb-true i z same) both.0
        | inr behind ↦ rest.0 z behind
      ],
      both.1,
    ))

-- one, where something holds
abbrev point : Bool → ℕ
point true = 1
point false = 0

-- how many of some inputs come before one
abbrev count_before : ℕ → ℕ → List ℕ → ℕ
count_before last x [] = 0
count_before last x (z ∷ inputs) = point (comes_before last z x) + count_before last x inputs

one_less : (b c : Bool) → (b ≡ true → c ≡ true) → point b ≤ point c
one_less true true h = omega arith
one_less true false h = absurd (both_ways false refl (h refl))
one_less false true h = omega arith
one_less false false h = omega arith

few_before : (last t x : ℕ) (inputs : List ℕ) → comes_before last t x ≡ true → count_before t x inputs ≤ count_before last x inputs
few_before last t x [] h = omega arith
few_before last t x (z ∷ inputs) h =
    (let rest = few_before last t x inputs h in
    let one = one_less (comes_before t z x) (comes_before last z x) (between_before last t x z h) in
    omega (arith, rest, one))

fewer_before : (last t x : ℕ) (inputs : List ℕ) → comes_before last t x ≡ true → has_input t inputs ≡ true
    → count_before t x inputs < count_before last x inputs
fewer_before last t x [] h here = absurd (both_ways false refl here)
fewer_before last t x (z ∷ inputs) h here = elim (or_cases (z == t) (has_input t inputs) here) [
  | inl same ↦ (let rest = few_before last t x inputs h in
      let e = eqb-true z t same in
      let gone : point (comes_before t z x) ≡ 0 = ap (λ (w : ℕ). point (comes_before t w x)) e ∙ ap point (no_more_before t x) in
      let was : point (comes_before last z x) ≡ 1 = ap (λ (w : ℕ). point (comes_before last w x)) e ∙ ap point h in
      omega (arith, rest, gone, was))
  | inr behind ↦ (let rest = fewer_before last t x inputs h behind in
      let one = one_less (comes_before t z x) (comes_before last z x) (between_before last t x z h) in
      omega (arith, rest, one))
]

one_at_most : (b : Bool) → point b ≤ 1
one_at_most true = omega arith
one_at_most false = omega arith

all_before : (last x : ℕ) (inputs : List ℕ) → count_before last x inputs ≤ length inputs
all_before last x [] = omega arith
all_before last x (z ∷ inputs) =
    (let rest = all_before last x inputs in
    let one = one_at_most (comes_before last z x) in
    omega (arith, rest, one))

not_all_before : (last x : ℕ) (inputs : List ℕ) → has_input x inputs ≡ true → count_before last x inputs < length inputs
not_all_before last x [] here = absurd (both_ways false refl here)
not_all_before last x (z ∷ inputs) here = elim (or_cases (z == x) (has_input x inputs) here) [
  | inl same ↦ (let rest = all_before last x inputs in
      let e = eqb-true z x same in
      let gone : point (comes_before last z x) ≡ 0 = ap (λ (w : ℕ). point (comes_before last w x)) e ∙ ap point (irreflexive last x) in
      omega (arith, rest, gone))
  | inr behind ↦ (let rest = not_all_before last x inputs behind in
      let one = one_at_most (comes_before last z x) in
      omega (arith, rest, one))
]

-- an input before which fewer stand than there are grants has one of them
granted_in_time : (last x : ℕ) (inputs : List ℕ) (grants : List Grant) → AreGrantsInTurn last grants → AskAtEach inputs x grants
    → count_before last x inputs < length grants → is_granted x grants ≡ true
granted_in_time last x inputs [] turn asks few = absurd (omega (arith, few))
granted_in_time last x inputs (g ∷ grants) turn asks few = elim (cases_Bool (g.to == x)) [
  | inl same ↦ ap (λ (b : Bool). b || is_granted x grants) same
  | inr apart ↦ (let behind = (first_of last None g.asking g.to turn.0).0 x asks.1 in
      let before = comes_or_is last g.to x behind (λ e. both_ways (g.to == x) apart (eq-eqb g.to x e)) in
      let less = fewer_before last g.to x inputs before asks.0 in
      ap (λ (b : Bool). b || is_granted x grants) apart ∙ granted_in_time g.to x inputs grants turn.1 asks.2 (omega (arith, few, less)))
]

pub go_round : GoRound
go_round last x inputs grants turn asks here many =
    (let few = not_all_before last x inputs here in
    granted_in_time last x inputs grants turn asks (omega (arith, few, many)))
