-- Where a bad line is refused.
use Rattle.std.proofs.Common.{◌≡◌, ◌⊎◌, inl, inr, ℕ, refl, sym, ◌∙◌, ap}
use Rattle.std.specs.Prelude.{Result, Ok, Err}
use Rattle.torus.specs.declared.fault.Fault.{Fault}
use Rattle.lexer.specs.declared.refusal.Refusal.{Refusal}
use Rattle.lexer.specs.Outcome.{line_of_fault, refusal_at}
use Rattle.trace_lines.specs.declared.reason.LineReason.{LineReason}
use Rattle.trace_lines.specs.declared.reason.LineReason.TheVariants as reason
use Rattle.trace_lines.specs.Reasons.{fault_of_line_reason, map_err}

-- but for out of memory it stands at its line
pub at_line : (e : LineReason) (n : ℕ) → (e ≡ reason.Memory) ⊎ (line_of_fault (fault_of_line_reason e) n ≡ n)
at_line reason.NoTitle n = inr refl
at_line reason.TitleMissing n = inr refl
at_line (reason.WordCount keyword) n = inr refl
at_line (reason.NotNumber place) n = inr refl
at_line reason.UnknownOperation n = inr refl
at_line reason.OperandCount n = inr refl
at_line reason.NotReply n = inr refl
at_line reason.WordsFirst n = inr refl
at_line reason.WordsMissing n = inr refl
at_line reason.WordsTwice n = inr refl
at_line reason.WordsLimits n = inr refl
at_line reason.InitLate n = inr refl
at_line reason.InitTwice n = inr refl
at_line reason.ProcessorLimits n = inr refl
at_line (reason.AddressLimits place words) n = inr refl
at_line (reason.ValueLimits place) n = inr refl
at_line reason.OkUnwanted n = inr refl
at_line reason.NumberUnwanted n = inr refl
at_line reason.Memory n = inl refl

-- a refusal is what a reader of these reasons answers
pub refused_at : {A R : Type 0} (fault_of : R → Fault) (memory e : R) (n : ℕ) (got : Refusal R) (all : Result A (Refusal R))
    → line_of_fault (fault_of memory) n ≡ 0 → (e ≡ memory) ⊎ (line_of_fault (fault_of e) n ≡ n)
    → got ≡ refusal_at (line_of_fault (fault_of e) n) e → (e ≡ memory) ⊎ (all ≡ Err (refusal_at n e))
    → (got ≡ refusal_at 0 memory) ⊎ (all ≡ Err got)
refused_at {A} {R} fault_of memory e n got all nowhere there is found =
    let none : e ≡ memory → got ≡ refusal_at 0 memory =
    λ m. is ∙ (ap (λ (f : R). refusal_at (line_of_fault (fault_of f) n) f) m ∙ ap (λ (l : ℕ). refusal_at l memory) nowhere) in
    elim found [
      | inl m ↦ inl (none m)
      | inr bad ↦ elim there [
        | inl m ↦ inl (none m)
        | inr here ↦ inr (bad ∙ ap (λ (l : ℕ). Err (refusal_at l e)) (sym here) ∙ ap Err (sym is))
      ]
    ]

-- what is left with another reason was left before
pub unmapped : {A R S : Type 0} (f : R → S) (m : Result A R) (x : A) → map_err f m ≡ Ok x → m ≡ Ok x
unmapped f (Ok y) x h = cc
unmapped f (Err e) x h = absurd (cc)
