-- Operations whose turns differ, as a list in the order of their turns.
use Rattle.std.proofs.Common.{◌≡◌, ◌⊎◌, inl, inr, ℕ, zero, suc, ◌<◌, List, [], ◌∷◌, length, refl, sym, subst, arith}
use Rattle.std.specs.Prelude.{slice_index}
use Rattle.std.proofs.lemmas.Bool.{cases_eq, cases_lt}
use Rattle.memory_models.specs.declared.kinds.Operation.{Operation}
use Rattle.memory_models.specs.Values.{AreInTurns}

-- a number is in a list
abbrev In : ℕ → List ℕ → Type 0
In x [] = ⊥
In x (y ∷ ys) = (x ≡ y) ⊎ In x ys

-- the turns of a list rise
abbrev Rises : (ℕ → ℕ) → List ℕ → Type 0
Rises turn [] = Unit {0}
Rises turn (y ∷ ys) = ((z : ℕ) → In z ys → turn y < turn z) × Rises turn ys

-- a list with one number more, in its turn
record Placed (turn : ℕ → ℕ) (x : ℕ) (ys : List ℕ) : Type 0 where
  items : List ℕ
  rises : Rises turn items
  from : (z : ℕ) → In z items → (z ≡ x) ⊎ In z ys
  itself : In x items
  others : (z : ℕ) → In z ys → In z items

placed : (turn : ℕ → ℕ) (x : ℕ) (ys : List ℕ) → Rises turn ys → ((z : ℕ) → In z ys → turn x ≡ turn z → ⊥) → Placed turn x ys
placed turn x [] rises differ = record {
  items = x ∷ [];
  rises = (λ z i. absurd i, tt);
  from = λ z i. elim i [ inl same ↦ inl same | inr none ↦ absurd none ];
  itself = inl refl;
  others = λ z i. absurd i;
}
placed turn x (y ∷ ys) rises differ = elim (cases_lt (turn x) (turn y)) [
  | inl less ↦ record {
    items = x ∷ y ∷ ys;
    rises = (
      λ z i. elim i [
        | inl same ↦ subst (λ w. turn x < turn w) (sym same) less
        | inr in_ys ↦ (let up = rises.0 z in_ys in omega (arith, less, up))
      ],
      rises,
    );
    from = λ z i. i;
    itself = inl refl;
    others = λ z i. inr i;
  }
  | inr not_less ↦ (let rest = placed turn x ys rises.1 (λ z i. differ z (inr i)) in
      let other = differ y (inl refl) in
      let below : turn y < turn x = elim (cases_eq (turn x) (turn y)) [
        | inl same ↦ absurd (other same)
        | inr apart ↦ omega (arith, not_less, apart)
      ] in
      record {
        items = y ∷ rest.items;
        rises = (
          λ z i. elim (rest.from z i) [
            | inl same ↦ subst (λ w. turn y < turn w) (sym same) below
            | inr in_ys ↦ rises.0 z in_ys
          ],
          rest.rises,
        );
        from = λ z i. elim i [
          | inl same ↦ inr (inl same)
          | inr later ↦ elim (rest.from z later) [
            | inl same ↦ inl same
            | inr in_ys ↦ inr (inr in_ys)
          ]
        ];
        itself = inr rest.itself;
        others = λ z i. elim i [
          | inl same ↦ inl same
          | inr in_ys ↦ inr (rest.others z in_ys)
        ];
      })
]

-- the numbers below n
record AllBelow (turn : ℕ → ℕ) (n : ℕ) : Type 0 where
  items : List ℕ
  rises : Rises turn items
  low : (z : ℕ) → In z items → z < n
  each : (z : ℕ) → z < n → In z items

all_below : (turn : ℕ → ℕ) (n : ℕ) → ((x y : ℕ) → x < n → y < n → turn x ≡ turn y → x ≡ y) → AllBelow turn n
all_below turn zero apart = record { items = []; rises = tt; low = λ z i. absurd i; each = λ z l. absurd (omega arith) }
all_below turn (suc n) apart =
    let rest = all_below turn n (λ x y low high e. apart x y (omega arith) (omega arith) e) in
    let more = placed turn n rest.items rest.rises (λ z i e. let below = rest.low z i in
    let same : n ≡ z = apart n z (omega arith) (omega arith) e in omega (arith, below, same)) in
    record {
      items = more.items;
      rises = more.rises;
      low = λ z i. elim (more.from z i) [
        | inl same ↦ omega (arith, same)
        | inr in_rest ↦ (let below = rest.low z in_rest in omega (arith, below))
      ];
      each = λ z l. elim (cases_eq z n) [
        | inl same ↦ subst (λ w. In w more.items) (sym same) more.itself
        | inr other ↦ more.others z (rest.each z (omega (arith, l, other)))
      ];
    }

in_place : (items : List ℕ) (k : ℕ) → k < length items → In (slice_index items k) items
in_place [] k low = absurd (omega arith)
in_place (y ∷ ys) zero low = inl refl
in_place (y ∷ ys) (suc k) low = inr (in_place ys k (omega arith))

place_of : (items : List ℕ) (z : ℕ) → In z items → (k : ℕ) × (k < length items) × (slice_index items k ≡ z)
place_of [] z i = absurd i
place_of (y ∷ ys) z (inl same) = (0, omega arith, sym same)
place_of (y ∷ ys) z (inr i) = let rest = place_of ys z i in let low = rest.1 in (suc rest.0, omega (arith, low), rest.2)

rises_at : (turn : ℕ → ℕ) (items : List ℕ) → Rises turn items → (j k : ℕ) → j < k → k < length items
    → turn (slice_index items j) < turn (slice_index items k)
rises_at turn [] rises j k less low = absurd (omega arith)
rises_at turn (y ∷ ys) rises j zero less low = absurd (omega arith)
rises_at turn (y ∷ ys) rises zero (suc k) less low = rises.0 (slice_index ys k) (in_place ys k (omega arith))
rises_at turn (y ∷ ys) rises (suc j) (suc k) less low = rises_at turn ys rises.1 j k (omega arith) (omega arith)

-- operations that differ in their turns stand in a list in their turns
pub list_in_turns : (ops : List Operation) (turn : ℕ → ℕ) → ((x y : ℕ) → x < length ops → y < length ops → turn x ≡ turn y → x ≡ y)
    → (order : List ℕ) × AreInTurns ops turn order
list_in_turns ops turn apart =
    let all = all_below turn (length ops) apart in (
      all.items,
      record {
        low = λ k l. all.low (slice_index all.items k) (in_place all.items k l);
        rise = rises_at turn all.items all.rises;
        each = λ x l. place_of all.items x (all.each x l);
      },
    )
