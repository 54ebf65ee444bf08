-- A round moves where a choice is enabled, and so rounds end.
use Rattle.std.proofs.Common.{◌≡◌, ⊎_elim, ℕ, zero, suc, ◌+◌, ◌<◌, ◌≤◌, Bool, true, false, List, [], ◌∷◌, Option, Some, None, sym, ap, ◌∙◌, refl, subst, arith}
use Rattle.core_laws.specs.Rounds.{IsOn, or_same, one_if_moved, after_attempts, moves_in, if_enabled, first_enabled, IsEnabled, after_rounds}
use Rattle.core_laws.specs.Rounds.{Finishes, IsBoundedWork}
use Rattle.core_laws.proofs.Members.{on_cases, on_none, on_head, on_tail}

module _ {S C : Type 0} (step : S → C → Option S) where
  -- by whether the first choice is enabled
  by_first : (s : S) (c d : C) (cs : List C) → (first_enabled step s cs ≡ Some d → 0 < moves_in step s cs) → (o : Option S) → step s c ≡ o
      → if_enabled step c (first_enabled step s cs) o ≡ Some d → 0 < one_if_moved o + moves_in step (or_same s o) cs
  by_first s c d cs ih None is found = let more : 0 < moves_in step s cs = ih found in omega arith
  by_first s c d cs ih (Some t) is found = omega arith

  -- a round makes a move where one of its choices is enabled at first
  pub round_moves : (s : S) (c : C) (cs : List C) → first_enabled step s cs ≡ Some c → 0 < moves_in step s cs
  round_moves s c [] found = absurd (cc)
  round_moves s c (d ∷ cs) found = by_first s d c cs (round_moves s c cs) (step s d) refl found

  none_cases : (s t : S) (c d : C) (cs : List C) → (first_enabled step s cs ≡ None → IsOn d cs → step s d ≡ Some t → ⊥) → (o : Option S) → step s c ≡ o
      → if_enabled step c (first_enabled step s cs) o ≡ None → IsOn d (c ∷ cs) → step s d ≡ Some t → ⊥
  none_cases s t c d cs ih (Some u) is found on enabled = absurd (cc)
  none_cases s t c d cs ih None is found on enabled = ⊎_elim
      (λ (e : c ≡ d). let never : None ≡ Some t = sym is ∙ ap (step s) e ∙ enabled in absurd (cc))
      (λ (rest : IsOn d cs). ih found rest enabled)
      (on_cases c d cs on)

  -- where no choice is found, none is enabled
  pub none_enabled : (s t : S) (d : C) (cs : List C) → first_enabled step s cs ≡ None → IsOn d cs → step s d ≡ Some t → ⊥
  none_enabled s t d [] found on enabled = on_none d on
  none_enabled s t d (c ∷ cs) found on enabled = none_cases s t c d cs (none_enabled s t d cs) (step s c) refl found on enabled

  found_cases : (s : S) (c d : C) (cs : List C) → (first_enabled step s cs ≡ Some d → IsOn d cs × ((t : S) × (step s d ≡ Some t))) → (o : Option S)
      → step s c ≡ o
      → if_enabled step c (first_enabled step s cs) o ≡ Some d → IsOn d (c ∷ cs) × ((t : S) × (step s d ≡ Some t))
  found_cases s c d cs ih None is found = let at = ih found in (on_tail c d cs at.0, at.1)
  found_cases s c d cs ih (Some t) is found =
      let same : c ≡ d = cc in
      (subst (λ e. IsOn e (c ∷ cs)) same (on_head c cs), (t, ap (step s) (sym same) ∙ is))

  -- the choice that is found is enabled
  pub found_enabled : (s : S) (d : C) (cs : List C) → first_enabled step s cs ≡ Some d → IsOn d cs × ((t : S) × (step s d ≡ Some t))
  found_enabled s d [] found = absurd (cc)
  found_enabled s d (c ∷ cs) found = found_cases s c d cs (found_enabled s d cs) (step s c) refl found

  module _ (cs : List C) (finished : S → Bool) (Inv : S → Type 0) (left : S → ℕ)
      (kept : (s : S) → Inv s → Inv (after_attempts step s cs)) (falls : (s : S) → Inv s → finished s ≡ false → left (after_attempts step s cs) < left s) where
    by_finished : (m : ℕ) (s : S) → ((t : S) → Inv t → left t < m → Finishes step cs finished left t) → Inv s → left s < suc m → (b : Bool) → finished s ≡ b
        → Finishes step cs finished left s
    by_finished m s ih inv low true is = record { rounds = 0; few = omega arith; is = record { done = is; least = λ j h. absurd (omega arith) } }
    by_finished m s ih inv low false is =
        let lower = falls s inv is in
        let rest : Finishes step cs finished left (after_attempts step s cs) = ih (after_attempts step s cs) (kept s inv) (omega arith) in
        record {
          rounds = suc rest.rounds;
          few = let few = rest.few in omega arith;
          is = record { done = rest.is.done; least = first_false rest.rounds rest.is.least is };
        }
      where
        first_false : (k : ℕ) → ((j : ℕ) → j < k → finished (after_rounds step cs j (after_attempts step s cs)) ≡ false) → finished s ≡ false
            → (j : ℕ) → j < suc k → finished (after_rounds step cs j s) ≡ false
        first_false k rest now zero h = now
        first_false k rest now (suc j) h = rest j (omega arith)

    finishes_below : (m : ℕ) (s : S) → Inv s → left s < m → Finishes step cs finished left s
    finishes_below zero s inv low = absurd (omega arith)
    finishes_below (suc m) s inv low = by_finished m s (finishes_below m) inv low (finished s) refl

    -- there is a least number of rounds that finishes, at most what is left
    pub finishes : (s : S) → Inv s → Finishes step cs finished left s
    finishes s inv = finishes_below (suc (left s)) s inv (omega arith)

  -- from facts of single steps: each keeps Inv and lowers what is left
  module _ (Inv : S → Type 0) (left : S → ℕ)
      (kept : (s t : S) (c : C) → Inv s → step s c ≡ Some t → Inv t) (falls : (s t : S) (c : C) → Inv s → step s c ≡ Some t → left t < left s) where
    or_kept : (s : S) (c : C) (o : Option S) → step s c ≡ o → Inv s → Inv (or_same s o)
    or_kept s c None is inv = inv
    or_kept s c (Some t) is inv = kept s t c inv is

    or_falls : (s : S) (c : C) (o : Option S) → step s c ≡ o → Inv s → left (or_same s o) + one_if_moved o ≤ left s
    or_falls s c None is inv = omega arith
    or_falls s c (Some t) is inv = let lower = falls s t c inv is in omega arith

    pub round_kept : (s : S) (ds : List C) → Inv s → Inv (after_attempts step s ds)
    round_kept s [] inv = inv
    round_kept s (c ∷ ds) inv = round_kept (or_same s (step s c)) ds (or_kept s c (step s c) refl inv)

    -- what is left falls by the moves of a round
    pub round_falls : (s : S) (ds : List C) → Inv s → left (after_attempts step s ds) + moves_in step s ds ≤ left s
    round_falls s [] inv = omega arith
    round_falls s (c ∷ ds) inv =
        let first : left (or_same s (step s c)) + one_if_moved (step s c) ≤ left s = or_falls s c (step s c) refl inv in
        let rest : left (after_attempts step (or_same s (step s c)) ds) + moves_in step (or_same s (step s c)) ds ≤ left (or_same s (step s c)) =
        round_falls (or_same s (step s c)) ds (or_kept s c (step s c) refl inv) in
        omega arith

  -- while it isn't finished one of a round's choices is enabled: so rounds finish, after at most as many as what is left
  pub rounds_finish : (cs : List C) (finished : S → Bool) (Inv : S → Type 0) (left : S → ℕ)
      → ((s t : S) (c : C) → Inv s → step s c ≡ Some t → Inv t) → ((s t : S) (c : C) → Inv s → step s c ≡ Some t → left t < left s)
      → ((s : S) → Inv s → finished s ≡ false → (c : C) × (first_enabled step s cs ≡ Some c)) → (s : S) → Inv s → Finishes step cs finished left s
  rounds_finish cs finished Inv left kept falls lives s inv =
      finishes cs finished Inv left (λ t at. round_kept Inv left kept falls t cs at)
      (λ t at busy. let c = lives t at busy in let some = round_moves t c.0 cs c.1 in let all = round_falls Inv left kept falls t cs at in omega arith) s inv

  -- an enabled choice of the round is found, the same or one before it
  some_found : (s : S) (c : C) (cs : List C) → IsOn c cs → IsEnabled step s c → (o : Option C) → first_enabled step s cs ≡ o
      → (d : C) × (first_enabled step s cs ≡ Some d)
  some_found s c cs on enabled (Some d) is = (d, is)
  some_found s c cs on enabled None is = absurd (none_enabled s enabled.0 c cs is on enabled.1)

  pub found_on : (s : S) (c : C) (cs : List C) → IsOn c cs → IsEnabled step s c → (d : C) × (first_enabled step s cs ≡ Some d)
  found_on s c cs on enabled = some_found s c cs on enabled (first_enabled step s cs) refl

  module _ (round : List C) (finished reached : S → Bool) (left : S → ℕ) (is : IsBoundedWork step round finished reached left) where
    pub work_falls : (s : S) (cs : List C) → reached s ≡ true → left (after_attempts step s cs) + moves_in step s cs ≤ left s
    work_falls s cs at = round_falls (λ s. reached s ≡ true) left is.kept is.falls s cs at

    pub work_ends : (s : S) → reached s ≡ true → Finishes step round finished left s
    work_ends s at = rounds_finish round finished (λ s. reached s ≡ true) left is.kept is.falls
        (λ t h busy. let c = is.lives t h busy in found_on t c.0 round c.1 c.2) s at
