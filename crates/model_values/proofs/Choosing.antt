-- A search over sources has refuted all choices behind which it stands.
use Rattle.std.proofs.Common.{◌≡◌, inl, inr, ℕ, ◌+◌, ◌<◌, ◌≤◌, Bool, true, false, List, [], ◌∷◌, ◌++◌, length, refl, sym, ap, subst, ◌∙◌, arith}
use Rattle.std.proofs.lemmas.Bool.{cases_eq, cases_lt}
use Rattle.std.proofs.lemmas.List.{get_or_push, get_or_append_left, length_push, length-append}
use Rattle.memory_models.specs.declared.kinds.Operation.{Operation}
use Rattle.memory_models.specs.declared.kinds.Rule.{Rule}
use Rattle.model_values.specs.declared.valued.Valued.{Valued}
use Rattle.model_values.specs.Choices.{Chooses, Begins, Forced, Takes, Refutes, Turns, Closes}
use Rattle.model_values.specs.Choices.{Explains, Gives, GivesNone, MayRead, choice_at, source_in}
use Rattle.model_values.specs.ValuedVerdict.{BreaksValues}
use Rattle.model_values.proofs.Chosen.{may_read_in}

-- no order gives the first operations of a path their sources, and the next one a lesser source
abbrev pub GivesNoLess : List Rule → Valued → List (ℕ × ℕ) → ℕ → Type 0
GivesNoLess rules v path k = (placed : List Operation) (writes : List ℕ) → Explains rules v placed writes → Gives v placed writes path k
    → source_in v placed writes (choice_at path k).0 < (choice_at path k).1 → ⊥

-- the lesser choices than those at which a search stands are refuted; and the choices too, if they are given up
pub record IsBehind (rules : List Rule) (v : Valued) (path : List (ℕ × ℕ)) (given_up : Bool) : Type 0 where
  pub known : (k : ℕ) → k < length path → MayRead v (choice_at path k).0 (choice_at path k).1
  pub less : (k : ℕ) → k < length path → GivesNoLess rules v path k
  pub none : given_up ≡ true → GivesNone rules v path

front_size : (path more last : List (ℕ × ℕ)) → last ≡ path ++ more → length path ≤ length last
front_size path more last is = (let size : length last ≡ length path + length more = ap length is ∙ length-append path more in omega (arith, size))

front_at : (path more last : List (ℕ × ℕ)) → last ≡ path ++ more → (k : ℕ) → k < length path → choice_at last k ≡ choice_at path k
front_at path more last is k low = ap (λ z. choice_at z k) is ∙ get_or_append_left path more (0, 0) k low

pushed_size : (path last : List (ℕ × ℕ)) (c : ℕ × ℕ) → last ≡ path ++ c ∷ [] → length last ≡ length path + 1
pushed_size path last c is = ap length is ∙ length_push path c

pushed_at : (path last : List (ℕ × ℕ)) (c : ℕ × ℕ) → last ≡ path ++ c ∷ [] → choice_at last (length path) ≡ c
pushed_at path last c is = ap (λ z. choice_at z (length path)) is ∙ get_or_push path c (0, 0) (length path) refl

-- what an order gives the first operations of a longer path, and those of a shorter one
gives_long : (v : Valued) (placed : List Operation) (writes : List ℕ) (path more last : List (ℕ × ℕ)) → last ≡ path ++ more → (n : ℕ) → n ≤ length path
    → Gives v placed writes path n → Gives v placed writes last n
gives_long v placed writes path more last is n low gives k less =
    subst (λ z. source_in v placed writes z.0 ≡ z.1) (sym (front_at path more last is k (omega (arith, less, low)))) (gives k less)

gives_short : (v : Valued) (placed : List Operation) (writes : List ℕ) (path more last : List (ℕ × ℕ)) → last ≡ path ++ more → (n : ℕ) → n ≤ length path
    → Gives v placed writes last n → Gives v placed writes path n
gives_short v placed writes path more last is n low gives k less =
    subst (λ z. source_in v placed writes z.0 ≡ z.1) (front_at path more last is k (omega (arith, less, low))) (gives k less)

gives_after : (v : Valued) (placed : List Operation) (writes : List ℕ) (path last : List (ℕ × ℕ)) (x s : ℕ) → last ≡ path ++ (x, s) ∷ []
    → Gives v placed writes path (length path) → source_in v placed writes x ≡ s → Gives v placed writes last (length last)
gives_after v placed writes path last x s is gives one k less = elim (cases_lt k (length path)) [
  | inl low ↦ subst (λ z. source_in v placed writes z.0 ≡ z.1) (sym (front_at path ((x, s) ∷ []) last is k low)) (gives k low)
  | inr not ↦ (let size = pushed_size path last (x, s) is in
      let e : length path ≡ k = omega (arith, less, not, size) in
      subst (λ z. source_in v placed writes z.0 ≡ z.1) (sym (pushed_at path last (x, s) is) ∙ ap (choice_at last) e) one)
]

short_known : (v : Valued) (path more last : List (ℕ × ℕ)) → last ≡ path ++ more
    → ((k : ℕ) → k < length last → MayRead v (choice_at last k).0 (choice_at last k).1)
    → (k : ℕ) → k < length path → MayRead v (choice_at path k).0 (choice_at path k).1
short_known v path more last is known k low =
    let size = front_size path more last is in
    subst (λ z. MayRead v z.0 z.1) (front_at path more last is k low) (known k (omega (arith, low, size)))

short_less : (rules : List Rule) (v : Valued) (path more last : List (ℕ × ℕ)) → last ≡ path ++ more
    → ((k : ℕ) → k < length last → GivesNoLess rules v last k) → (k : ℕ) → k < length path → GivesNoLess rules v path k
short_less rules v path more last is less k low placed writes e gives below =
    let size = front_size path more last is in
    less k (omega (arith, low, size)) placed writes e (gives_long v placed writes path more last is k (omega (arith, low)) gives)
    (subst (λ z. source_in v placed writes z.0 < z.1) (sym (front_at path more last is k low)) below)

-- a choice more, of which the lesser ones are refuted
behind_pushed : (rules : List Rule) (v : Valued) (path next : List (ℕ × ℕ)) (x s : ℕ) → MayRead v x s → next ≡ path ++ (x, s) ∷ []
    → ((k : ℕ) → k < length path → MayRead v (choice_at path k).0 (choice_at path k).1)
    → ((k : ℕ) → k < length path → GivesNoLess rules v path k)
    → ((placed : List Operation) (writes : List ℕ) → Explains rules v placed writes → Gives v placed writes path (length path)
    → source_in v placed writes x < s → ⊥) → IsBehind rules v next false
behind_pushed rules v path next x s may is known less none =
    let size = pushed_size path next (x, s) is in
    record {
      known = λ k small. (elim (cases_lt k (length path)) [
        | inl under ↦ subst (λ z. MayRead v z.0 z.1) (sym (front_at path ((x, s) ∷ []) next is k under)) (known k under)
        | inr not ↦ (let e : length path ≡ k = omega (arith, small, not, size) in
            subst (λ z. MayRead v z.0 z.1) (sym (pushed_at path next (x, s) is) ∙ ap (choice_at next) e) may)
      ]);
      less = λ k small placed writes e gives below. (elim (cases_lt k (length path)) [
        | inl under ↦ less k under placed writes e (gives_short v placed writes path ((x, s) ∷ []) next is k (omega (arith, under)) gives)
            (subst (λ z. source_in v placed writes z.0 < z.1) (front_at path ((x, s) ∷ []) next is k under) below)
        | inr not ↦ (let at : k ≡ length path = omega (arith, small, not, size) in
            none placed writes e (gives_short v placed writes path ((x, s) ∷ []) next is (length path) (omega arith)
            (subst (λ z. Gives v placed writes next z) at gives))
            (subst (λ z. source_in v placed writes z.0 < z.1) (ap (choice_at next) at ∙ pushed_at path next (x, s) is) below))
      ]);
      none = λ bad. absurd (let no : false ≡ true = bad in cc);
    }

-- where a path is given up, an order that gives all but the last of its operations their sources gives that one a greater source
above : (rules : List Rule) (v : Valued) (path last : List (ℕ × ℕ)) (x s : ℕ) → last ≡ path ++ (x, s) ∷ [] → IsBehind rules v last true
    → (placed : List Operation) (writes : List ℕ) → Explains rules v placed writes → Gives v placed writes path (length path)
    → s < source_in v placed writes x
above rules v path last x s is b placed writes e gives =
    let size = pushed_size path last (x, s) is in
    let t : ℕ = source_in v placed writes x in
    let at = pushed_at path last (x, s) is in
    elim (cases_lt s t) [
      | inl greater ↦ greater
      | inr not ↦ absurd (elim (cases_eq t s) [
        | inl same ↦ b.none refl placed writes e (gives_after v placed writes path last x s is gives same)
        | inr other ↦ (let under : t < s = omega (arith, not, other) in
            b.less (length path) (omega (arith, size)) placed writes e
            (gives_long v placed writes path ((x, s) ∷ []) last is (length path) (omega arith) gives)
            (subst (λ z. source_in v placed writes z.0 < z.1) (sym at) under))
      ])
    ]

last_may : (v : Valued) (path last : List (ℕ × ℕ)) (x s : ℕ) → last ≡ path ++ (x, s) ∷ []
    → ((k : ℕ) → k < length last → MayRead v (choice_at last k).0 (choice_at last k).1) → MayRead v x s
last_may v path last x s is known =
    let size = pushed_size path last (x, s) is in
    subst (λ z. MayRead v z.0 z.1) (pushed_at path last (x, s) is) (known (length path) (omega (arith, size)))

-- of the sources that operations may have all lesser ones are refuted, and those that were given up
pub behind : (rules : List Rule) (v : Valued) (path : List (ℕ × ℕ)) (given_up : Bool) (n : ℕ) → Chooses rules v path given_up n → IsBehind rules v path given_up
behind rules v path given_up n Begins = record {
  known = λ k low. absurd (omega (arith, low));
  less = λ k low placed writes e gives below. absurd (omega (arith, low));
  none = λ bad. absurd (let no : false ≡ true = bad in cc);
}
behind rules v _ given_up _ (Forced path next n x s from may only is) =
    let b = behind rules v path false n from in
    behind_pushed rules v path next x s may is b.known b.less
    (λ placed writes e gives below. (let same = only (source_in v placed writes x) (may_read_in v placed writes e.valued x may.low may.reads) in
    absurd (omega (arith, below, same))))
behind rules v _ given_up _ (Takes path next n m x s from may least is count) =
    let b = behind rules v path false n from in
    behind_pushed rules v path next x s may is b.known b.less
    (λ placed writes e gives below. least (source_in v placed writes x) below (may_read_in v placed writes e.valued x may.low may.reads))
behind rules v _ given_up _ (Refutes path more last n m from is none count) =
    let b = behind rules v last false n from in
    record {
      known = short_known v path more last is b.known;
      less = short_less rules v path more last is b.less;
      none = λ _. none;
    }
behind rules v _ given_up _ (Turns path last next n x s t from was greater may between is) =
    let b = behind rules v last true n from in
    behind_pushed rules v path next x t may is (short_known v path ((x, s) ∷ []) last was b.known) (short_less rules v path ((x, s) ∷ []) last was b.less)
    (λ placed writes e gives below. between (source_in v placed writes x) (above rules v path last x s was b placed writes e gives) below
    (may_read_in v placed writes e.valued x may.low may.reads))
behind rules v _ given_up _ (Closes path last n x s from was none) =
    let b = behind rules v last true n from in
    let may = last_may v path last x s was b.known in
    record {
      known = short_known v path ((x, s) ∷ []) last was b.known;
      less = short_less rules v path ((x, s) ∷ []) last was b.less;
      none = λ _ placed writes e gives. none (source_in v placed writes x) (above rules v path last x s was b placed writes e gives)
          (may_read_in v placed writes e.valued x may.low may.reads);
    }

-- where no choice is left, no order gives the words
pub all_refuted : (rules : List Rule) (v : Valued) (n : ℕ) → Chooses rules v [] true n → BreaksValues rules v
all_refuted rules v n from placed writes turn valued order =
    (behind rules v [] true n from).none refl placed writes (record { turn = turn; valued = valued; order = order })
    (λ k low. absurd (omega (arith, low)))
