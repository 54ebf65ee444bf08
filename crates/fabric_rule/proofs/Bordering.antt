-- Inputs and outputs whose flags are lowered are inner.
use Rattle.std.proofs.Common.{◌≡◌, ◌⊎◌, ◌↔◌, ⊎_elim, inl, inr, ℕ, ◌<◌, ◌≤◌, Bool, true, false, List, refl, sym, ap, ◌∙◌, subst}
use Rattle.torus.specs.Shape.{Shape, dims_of}
use Rattle.torus.specs.declared.step.Choice.TheVariants.{TakeFrom, CreditOf}
use Rattle.channel_number.specs.Ports.{port_count, input_channel, output_channel, input_router, output_router}
use Rattle.tile.specs.declared.agent.Agent.TheVariants.{Router}
use Rattle.tile.specs.Agents.{agent_number}
use Rattle.machine_parts.specs.Ports.{is_raised, lowered}
use Rattle.fabric_rule.specs.Groups.{In}
use Rattle.fabric_rule.specs.Border.{AreOf, TakesInside, CreditsInside}
use Rattle.fabric_rule.specs.Inner.{IsInner}
use Rattle.fabric_rule.proofs.Falling.{lowered_is}
use Rattle.fabric_rule.proofs.Sides.{take_inside, credit_inside}

either : (b : Bool) → (b ≡ true) ⊎ (b ≡ false)
either true = inl refl
either false = inr refl

pub all_raised : {P : Type 0} (words : List ℕ) → ((t port : ℕ) → is_raised words t port ≡ true) → (t port : ℕ) → is_raised words t port ≡ false → P
all_raised words all t port out = let e : ◌≡◌ {A = Bool} true false = sym (all t port) ∙ out in absurd (cc)

module _ (s : Shape) (words now : List ℕ) (t k first end there : ℕ) (own : Bool)
    (lower : own ≡ true → (u i : ℕ) → is_raised now u i ≡ lowered (is_raised words) t k u i) (same : own ≡ false → now ≡ words)
    (which : (own ≡ true) ↔ ((first ≤ there) × (there < end))) (low : k < port_count (dims_of s)) (lo : first ≤ t) (hi : t < end) where
  pub take_lowered : there ≡ output_router s (input_channel s t k) → (gs : List (List ℕ)) → AreOf gs first end → TakesInside s gs words → TakesInside s gs now
  take_lowered is gs mine inside u i out = ⊎_elim
      (λ (yes : own ≡ true).
      lowered_is (is_raised words) t k (λ x y. In gs x × IsInner s gs (agent_number x Router) (TakeFrom y)) inside
      (mine t lo hi, take_inside s t gs k low (subst (In gs) is (mine there (which.0 yes).0 (which.0 yes).1))) u i (sym (lower yes u i) ∙ out))
      (λ (no : own ≡ false). inside u i (ap (λ (x : List ℕ). is_raised x u i) (sym (same no)) ∙ out))
      (either own)

  pub credit_lowered : there ≡ input_router s (output_channel s t k) → (gs : List (List ℕ)) → AreOf gs first end → CreditsInside s gs words
      → CreditsInside s gs now
  credit_lowered is gs mine inside u i out = ⊎_elim
      (λ (yes : own ≡ true).
      lowered_is (is_raised words) t k (λ x y. In gs x × IsInner s gs (agent_number x Router) (CreditOf y)) inside
      (mine t lo hi, credit_inside s t gs k low (subst (In gs) is (mine there (which.0 yes).0 (which.0 yes).1))) u i (sym (lower yes u i) ∙ out))
      (λ (no : own ≡ false). inside u i (ap (λ (x : List ℕ). is_raised x u i) (sym (same no)) ∙ out))
      (either own)
