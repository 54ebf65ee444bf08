-- Two machines of which one shows the other's states: what rounds do to the one they do to the other.
use Rattle.std.proofs.Common.{◌≡◌, ℕ, zero, suc, Bool, List, [], ◌∷◌, Option, Some, None, option_map, refl, sym, ◌∙◌, ap}
use Rattle.core_laws.specs.Rounds.{or_same, after_attempts, first_enabled, if_enabled, after_rounds, Finishes}

module _ {S T C : Type 0} (small : S → C → Option S) (large : T → C → Option T) (f : S → T) (same : (s : S) (c : C) → option_map f (small s c) ≡ large (f s) c)
  where
    or_shown : (s : S) (o : Option S) → f (or_same s o) ≡ or_same (f s) (option_map f o)
    or_shown s None = refl
    or_shown s (Some t) = refl

    pub after_shown : (s : S) (cs : List C) → f (after_attempts small s cs) ≡ after_attempts large (f s) cs
    after_shown s [] = refl
    after_shown s (c ∷ cs) = after_shown (or_same s (small s c)) cs
        ∙ ap (λ (t : T). after_attempts large t cs) (or_shown s (small s c) ∙ ap (or_same (f s)) (same s c))

    if_shown : (c : C) (rest : Option C) (o : Option S) → if_enabled small c rest o ≡ if_enabled large c rest (option_map f o)
    if_shown c rest None = refl
    if_shown c rest (Some t) = refl

    pub first_shown : (s : S) (cs : List C) → first_enabled small s cs ≡ first_enabled large (f s) cs
    first_shown s [] = refl
    first_shown s (c ∷ cs) =
        if_shown c (first_enabled small s cs) (small s c) ∙ ap (if_enabled large c (first_enabled small s cs)) (same s c)
        ∙ ap (λ (o : Option C). if_enabled large c o (large (f s) c)) (first_shown s cs)

    pub rounds_shown : (cs : List C) (k : ℕ) (s : S) → f (after_rounds small cs k s) ≡ after_rounds large cs k (f s)
    rounds_shown cs zero s = refl
    rounds_shown cs (suc k) s = rounds_shown cs k (after_attempts small s cs) ∙ ap (after_rounds large cs k) (after_shown s cs)

    -- so the rounds that finish the one finish the other
    pub finishes_shown : (cs : List C) (finished : T → Bool) (left : S → ℕ) (s : S) → Finishes small cs (λ t. finished (f t)) left s
        → Finishes large cs finished (λ t. left s) (f s)
    finishes_shown cs finished left s at = record {
      rounds = at.rounds;
      few = at.few;
      is = record {
        done = ap finished (sym (rounds_shown cs at.rounds s)) ∙ at.is.done;
        least = λ j low. ap finished (sym (rounds_shown cs j s)) ∙ at.is.least j low;
      };
    }
