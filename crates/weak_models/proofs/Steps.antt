-- One step more at the end of a list.
use Rattle.std.proofs.Common.{◌≡◌, inl, inr, ℕ, ◌+◌, ◌<◌, List, [], ◌∷◌, ◌++◌, length, sym, subst, arith}
use Rattle.std.proofs.lemmas.Bool.{cases_lt}
use Rattle.std.proofs.lemmas.List.{get_or_push, get_or_append_left}
use Rattle.weak_models.specs.declared.verdict.Reason.TheVariants as why
use Rattle.weak_models.specs.declared.verdict.ReasonedStep.{ReasonedStep}
use Rattle.weak_models.specs.Arcs.{reasoned_at}

-- what holds of each step so far at its place, and of one more at the next place, holds of all of them
pub more : (P : ℕ → ReasonedStep → Type 0) (steps new : List ReasonedStep) (step : ReasonedStep) (k : ℕ) → length steps ≡ k
    → new ≡ steps ++ step ∷ [] → P k step → ((m : ℕ) → m < k → P m (reasoned_at steps m)) → (m : ℕ) → m < k + 1 → P m (reasoned_at new m)
more P steps new step k size same is before m low =
    subst (λ z. P m (reasoned_at z m)) (sym same)
    (elim (cases_lt m k) [
      | inl less ↦ subst (P m) (sym (get_or_append_left steps (step ∷ []) (record { from = 0; to = 0; why = why.Read }) m (omega arith))) (before m less)
      | inr high ↦ (let at : k ≡ m = omega arith in
          let here : reasoned_at (steps ++ step ∷ []) k ≡ step = get_or_push steps step (record { from = 0; to = 0; why = why.Read }) k size in
          subst (λ z. P z (reasoned_at (steps ++ step ∷ []) z)) at (subst (P k) (sym here) is))
    ])
