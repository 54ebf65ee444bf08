-- The ways between the channels of a cycle.
use Rattle.std.proofs.Common.{◌≡◌, ◌≢◌, ◌⊎◌, inl, inr, ℕ, suc, ◌+◌, ◌*◌, ◌<◌, ◌&&◌, not, Bool, true, false, Some, List, [], ◌∷◌, ◌++◌, length, set, refl, sym, ◌∙◌, ap, subst, arith, append_assoc}
use Rattle.std.specs.Prelude.{nat_lt, slice_get, slice_index, ◌==◌}
use Rattle.std.proofs.lemmas.Bool.{cases_eq, cases_lt, cases_Bool, eqb-true, eq-eqb, ltb-true, lt-ltb, and_parts, and_from}
use Rattle.network_judge.specs.declared.table.Kind.{Kind}
use Rattle.network_judge.specs.declared.table.Join.{Join}
use Rattle.network_judge.specs.Marks.{is_marked_at}
use Rattle.network_judge.specs.declared.table.Kind.TheVariants.{Ejection}
use Rattle.network_judge.specs.Table.{table_of, joins_of, is_receiver}
use Rattle.network_adaptive.specs.Spread.{Path, Stop, Go, names, opens, leads_on, choice_step, block_base}
use Rattle.network_adaptive.specs.Flags.{AreBehind, AreComes}
use Rattle.network_adaptive.specs.Between.{waits_at, IsWhether, IsChoiceBehind, LeadsToWait, StepsToward, HasStepToward, IsWayBetween, MayWaitTo}
use Rattle.network_adaptive.proofs.Flags.{any_at, any_from, not_true, true_not, set_other}
use Rattle.network_adaptive.proofs.Spreading.{step_leads}
use Rattle.network_adaptive.proofs.Spreading.{path_up}

-- a path begins with a step, or goes nowhere
pub path_first : (step : ℕ → ℕ → Bool) (x y : ℕ) → Path step x y → (x ≡ y) ⊎ ((z : ℕ) × (step x z ≡ true) × Path step z y)
path_first step x y Stop = inl refl
path_first step x y (Go u v p s) = elim (path_first step x u p) [
  | inl here ↦ inr (v, subst (λ z. step z v ≡ true) (sym here) s, Stop)
  | inr on ↦ inr (on.0, on.1, Go u v on.2 s)
]

-- what a path goes over needn't come back to where it begins
pub path_apart : (step less : ℕ → ℕ → Bool) (x y : ℕ) → ((u v : ℕ) → step u v ≡ true → v ≢ x → less u v ≡ true) → Path step x y → Path less x y
path_apart step less x y keeps Stop = Stop
path_apart step less x y keeps (Go u v p s) = elim (cases_eq v x) [
  | inl back ↦ subst (λ z. Path less x z) (sym back) Stop
  | inr apart ↦ Go u v (path_apart step less x u keeps p) (keeps u v s apart)
]

-- no choice so far is the channel
abbrev pub NoneNamed : List ℕ → ℕ → ℕ → ℕ → Type 0
NoneNamed choices start m y = (i : ℕ) → i < m → slice_index choices (start + i) ≢ y

pub none_named_more : (choices : List ℕ) (start k m y : ℕ) → m ≡ suc k → slice_index choices (start + k) ≢ y → NoneNamed choices start k y
    → NoneNamed choices start m y
none_named_more choices start k m y e here before i l = elim (cases_lt i k) [
  | inl low ↦ before i low
  | inr high ↦ let same : k ≡ i = omega arith in subst (λ z. slice_index choices (start + z) ≢ y) same here
]

pub none_names : (choices : List ℕ) (start ways m y : ℕ) → m ≡ ways → NoneNamed choices start m y → names choices start ways y ≡ false
none_names choices start ways m y e none = elim (cases_Bool (names choices start ways y)) [
  | inl is ↦ (let w = any_from (λ k. slice_index choices (start + k) == y) ways is in
      let low = w.1 in
      absurd (none w.0 (omega arith) (eqb-true (slice_index choices (start + w.0)) y w.2)))
  | inr is_not ↦ is_not
]

pub names_at : (choices : List ℕ) (start ways k y : ℕ) → k < ways → slice_index choices (start + k) ≡ y → names choices start ways y ≡ true
names_at choices start ways k y low e =
    any_at (λ i. slice_index choices (start + i) == y) ways k low (eq-eqb (slice_index choices (start + k)) y e)

pub and_none : (a b : Bool) → b ≡ false → (a && b) ≡ false
and_none true b e = e
and_none false b e = refl

module _ (kinds : List Kind) (choices : List ℕ) (base ways : ℕ) where
  abbrev step : List Bool → ℕ → ℕ → Bool
  step shut = choice_step kinds choices base ways shut

  pub waits_found : (x k y : ℕ) → k < ways → leads_on kinds x ≡ true → slice_index choices (base + x * ways + k) ≡ y
      → waits_at kinds choices base ways x y ≡ true
  waits_found x k y low leads e = and_from (leads_on kinds x) (names choices (base + x * ways) ways y) leads (names_at choices (base + x * ways) ways k y low e)

  pub waits_none : (x m y : ℕ) → m ≡ ways → NoneNamed choices (base + x * ways) m y → waits_at kinds choices base ways x y ≡ false
  waits_none x m y e none = and_none (leads_on kinds x) (names choices (base + x * ways) ways y) (none_names choices (base + x * ways) ways m y e none)

  -- none so far
  abbrev pub NoneAmong : List Bool → ℕ → ℕ → Type 0
  NoneAmong flags m y = (a : IsChoiceBehind kinds choices base ways flags y) → a.head < m → ⊥

  pub none_among_more : (flags : List Bool) (x m y : ℕ) → m ≡ suc x → (is_marked_at flags x ≡ true → waits_at kinds choices base ways x y ≡ true → ⊥)
      → NoneAmong flags x y → NoneAmong flags m y
  none_among_more flags x m y e here before a l = elim (cases_lt a.head x) [
    | inl low ↦ before a low
    | inr high ↦ (let same : a.head ≡ x = omega arith in
        here (ap (is_marked_at flags) (sym same) ∙ a.up) (ap (λ z. waits_at kinds choices base ways z y) (sym same) ∙ a.waits))
  ]

  -- the flags behind a channel tell whether it leads to one
  pub whether_leads : (shut flags : List Bool) (x y : ℕ) (b : Bool) → AreBehind kinds (step shut) x flags
      → IsWhether (IsChoiceBehind kinds choices base ways flags y) b → IsWhether (LeadsToWait kinds choices base ways shut x y) b
  whether_leads shut flags x y true are a = record { head = a.head; path = are.only a.head a.up; waits = a.waits }
  whether_leads shut flags x y false are no_one = λ l.
      no_one (record { head = l.head; up = path_up (step shut) flags x l.head are.closed are.begin l.path; waits = l.waits })

  -- the parts of a step
  pub step_parts : (shut : List Bool) (x y : ℕ) → step shut x y ≡ true
      → (y < length kinds) × (is_marked_at shut y ≡ false) × (names choices (base + x * ways) ways y ≡ true)
  step_parts shut x y e =
      let a = and_parts (leads_on kinds x) (opens (length kinds) choices (base + x * ways) ways shut y) e in
      let b = and_parts (nat_lt y (length kinds)) (not (is_marked_at shut y) && names choices (base + x * ways) ways y) a.1 in
      let d = and_parts (not (is_marked_at shut y)) (names choices (base + x * ways) ways y) b.1 in
      (ltb-true y (length kinds) b.0, not_true (is_marked_at shut y) d.0, d.1)

  pub step_from : (shut : List Bool) (x y : ℕ) → leads_on kinds x ≡ true → y < length kinds → is_marked_at shut y ≡ false
      → names choices (base + x * ways) ways y ≡ true → step shut x y ≡ true
  step_from shut x y leads low free named =
      and_from (leads_on kinds x) (opens (length kinds) choices (base + x * ways) ways shut y) leads
      (and_from (nat_lt y (length kinds)) (not (is_marked_at shut y) && names choices (base + x * ways) ways y) (lt-ltb y (length kinds) low)
      (and_from (not (is_marked_at shut y)) (names choices (base + x * ways) ways y) (true_not (is_marked_at shut y) free) named))

  -- no choice so far leads there
  abbrev pub NoStepSo : List Bool → ℕ → ℕ → ℕ → Type 0
  NoStepSo shut x m y = (i : ℕ) → i < m → StepsToward kinds choices base ways shut x y (slice_index choices (base + x * ways + i)) → ⊥

  pub no_step_more : (shut : List Bool) (x k m y next : ℕ) → m ≡ suc k → slice_index choices (base + x * ways + k) ≡ next
      → (StepsToward kinds choices base ways shut x y next → ⊥) → NoStepSo shut x k y → NoStepSo shut x m y
  no_step_more shut x k m y next e is here before i l = elim (cases_lt i k) [
    | inl low ↦ before i low
    | inr high ↦ (let same : k ≡ i = omega arith in
        subst (λ z. StepsToward kinds choices base ways shut x y z → ⊥) (sym is ∙ ap (λ z. slice_index choices (base + x * ways + z)) same) here)
  ]

  pub no_steps : (shut : List Bool) (x m y : ℕ) → m ≡ ways → HasStepToward kinds choices base ways shut x y → NoStepSo shut x m y → ⊥
  no_steps shut x m y e has before =
      let s = has.1 in
      let p = step_parts shut x has.0 s.step in
      let w = any_from (λ k. slice_index choices (base + x * ways + k) == has.0) ways p.2 in
      let low = w.1 in
      let same : slice_index choices (base + x * ways + w.0) ≡ has.0 = eqb-true (slice_index choices (base + x * ways + w.0)) has.0 w.2 in
      before w.0 (omega arith) (subst (λ z. StepsToward kinds choices base ways shut x y z) (sym same) s)

  pub step_found : (shut : List Bool) (x k y next : ℕ) → k < ways → slice_index choices (base + x * ways + k) ≡ next → next < length kinds
      → is_marked_at shut next ≡ false → HasStepToward kinds choices base ways shut x y → LeadsToWait kinds choices base ways shut next y
      → StepsToward kinds choices base ways shut x y next
  step_found shut x k y next low is inside free has leads = record {
    step = step_from shut x next (step_leads kinds choices base ways shut x has.0 (has.1).step) inside free
        (names_at choices (base + x * ways) ways k next low is);
    leads = leads;
  }

  -- a channel that leads there, but not at once, has a step toward it
  pub has_step : (shut : List Bool) (x y : ℕ) → LeadsToWait kinds choices base ways shut x y → waits_at kinds choices base ways x y ≡ false
      → HasStepToward kinds choices base ways shut x y
  has_step shut x y l not_here = elim (path_first (step shut) x l.head l.path) [
    | inl here ↦ (let bad : true ≡ false = sym l.waits ∙ (ap (λ z. waits_at kinds choices base ways z y) (sym here) ∙ not_here) in absurd (cc))
    | inr on ↦ (on.0, record { step = on.1; leads = record { head = l.head; path = on.2; waits = l.waits } })
  ]

  -- the channel itself needn't be come to again
  pub shut_here : (shut : List Bool) (x y : ℕ) → x < length shut → LeadsToWait kinds choices base ways shut x y
      → LeadsToWait kinds choices base ways (set shut x true) x y
  shut_here shut x y low l = record {
    head = l.head;
    path = path_apart (step shut) (step (set shut x true)) x l.head
        (λ u v s apart. (let p = step_parts shut u v s in
        step_from (set shut x true) u v (step_leads kinds choices base ways shut u v s) p.0 (set_other shut x v apart ∙ p.1) p.2)) l.path;
    waits = l.waits;
  }

  -- what the way so far goes on to
  abbrev pub GoesOnBy : List Bool → ℕ → List ℕ → ℕ → ℕ → Type 0
  GoesOnBy marks x over at y = (rest : List ℕ) → IsWayBetween kinds choices base ways marks at rest y
      → IsWayBetween kinds choices base ways marks x (over ++ rest) y

  pub goes_on_more : (marks shut : List Bool) (x at next y : ℕ) (over : List ℕ)
      → ((z : ℕ) → is_marked_at marks z ≡ true → is_marked_at shut z ≡ true) → step shut at next ≡ true
      → GoesOnBy marks x over at y → GoesOnBy marks x (over ++ next ∷ []) next y
  goes_on_more marks shut x at next y over kept s before rest w =
      let p = step_parts shut at next s in
      let free : is_marked_at marks next ≡ false = elim (cases_Bool (is_marked_at marks next)) [
        | inl up ↦ (let bad : true ≡ false = sym (kept next up) ∙ p.1 in absurd (cc))
        | inr down ↦ down
      ] in
      subst (λ (v : List ℕ). IsWayBetween kinds choices base ways marks x v y) (sym (append_assoc over (next ∷ []) rest))
      (before (next ∷ rest) (step_from marks at next (step_leads kinds choices base ways shut at next s) p.0 free p.2, w))

-- packets to no channel so far wait
pub no_wait_more : (kinds : List Kind) (joins : List Join) (choices : List ℕ) (ways : ℕ) (marks none : List Bool) (x y to m : ℕ) → m ≡ suc to
    → (MayWaitTo kinds joins choices ways marks none to x y → ⊥) → ((j : ℕ) → j < to → MayWaitTo kinds joins choices ways marks none j x y → ⊥)
    → (j : ℕ) → j < m → MayWaitTo kinds joins choices ways marks none j x y → ⊥
no_wait_more kinds joins choices ways marks none x y to m e here before j l = elim (cases_lt j to) [
  | inl low ↦ before j low
  | inr high ↦ (let same : to ≡ j = omega arith in
      subst (λ z. MayWaitTo kinds joins choices ways marks none z x y → ⊥) same here)
]

-- those to a channel that they don't come to
pub not_come : (kinds : List Kind) (joins : List Join) (choices : List ℕ) (ways : ℕ) (marks none seen : List Bool) (x y to : ℕ)
    → AreComes kinds joins (choice_step kinds choices (block_base kinds ways to) ways none) to seen → is_marked_at seen x ≡ false
    → MayWaitTo kinds joins choices ways marks none to x y → ⊥
not_come kinds joins choices ways marks none seen x y to are down w =
    let c = w.comes in
    let up = path_up (choice_step kinds choices (block_base kinds ways to) ways none) seen c.0 x are.closed (are.begin c.0 c.1) c.2 in
    let bad : true ≡ false = sym up ∙ down in
    absurd (cc)

-- those to a channel that is no ejection channel
pub no_end : (kinds : List Kind) (joins : List Join) (choices : List ℕ) (ways : ℕ) (marks none : List Bool) (x y to : ℕ)
    → ((i j : ℕ) → joins_of (table_of [] joins []) i j ≡ true → slice_get kinds j ≡ Some Ejection) → is_receiver (slice_get kinds to) ≡ false
    → MayWaitTo kinds joins choices ways marks none to x y → ⊥
no_end kinds joins choices ways marks none x y to receivers other w =
    let c = w.comes in
    let bad : true ≡ false = sym (ap is_receiver (receivers c.0 to c.1)) ∙ other in
    absurd (cc)
