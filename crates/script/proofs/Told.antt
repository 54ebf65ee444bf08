-- Where a bad line is refused.
use Rattle.std.proofs.Common.{◌≡◌, ◌⊎◌, inl, inr, ℕ, refl, sym, ◌∙◌, ap}
use Rattle.std.specs.Prelude.{Result, Err}
use Rattle.lexer.specs.declared.refusal.Refusal.{Refusal}
use Rattle.lexer.specs.Outcome.{line_of_fault, refusal_at}
use Rattle.script.specs.declared.reason.TextReason.{TextReason}
use Rattle.script.specs.declared.reason.TextReason.TheVariants as reason
use Rattle.script.specs.Reasons.{fault_of}

-- but for out of memory it stands at its line
at_line : (e : TextReason) (n : ℕ) → (e ≡ reason.Memory) ⊎ (line_of_fault (fault_of e) n ≡ n)
at_line reason.UnknownKeyword n = inr refl
at_line (reason.NumberCount a) n = inr refl
at_line (reason.NotNumber a) n = inr refl
at_line (reason.GivenTwice a) n = inr refl
at_line (reason.DatelineBefore a) n = inr refl
at_line (reason.InitBefore a) n = inr refl
at_line (reason.InitTwice a) n = inr refl
at_line (reason.Missing a) n = inr refl
at_line (reason.RadixLimits a) n = inr refl
at_line reason.DimsLimits n = inr refl
at_line (reason.TooManyTiles a) n = inr refl
at_line (reason.RadixCount a b) n = inr refl
at_line (reason.DatelineCount a b) n = inr refl
at_line (reason.DatelineLimits a b) n = inr refl
at_line reason.DepthLimits n = inr refl
at_line reason.TagsLimits n = inr refl
at_line reason.WordsLimits n = inr refl
at_line (reason.AddressLimits a b) n = inr refl
at_line (reason.ValueLimits a) n = inr refl
at_line reason.ProcessorAlone n = inr refl
at_line reason.UnknownOperation n = inr refl
at_line reason.OperandCount n = inr refl
at_line (reason.NotValue a) n = inr refl
at_line (reason.ProcessorLimits a) n = inr refl
at_line reason.SpinLimits n = inr refl
at_line reason.LastFirst n = inr refl
at_line (reason.ScriptLength a) n = inr refl
at_line (reason.ScriptsLength a) n = inr refl
at_line reason.StepCount n = inr refl
at_line reason.UnknownChoice n = inr refl
at_line (reason.AgentLimits a) n = inr refl
at_line (reason.NoChoice a) n = inr refl
at_line reason.PortWanted n = inr refl
at_line (reason.PortUnwanted a) n = inr refl
at_line (reason.PortLimits a) n = inr refl
at_line reason.Memory n = inl refl

-- it is what a reader answers
pub told : {B : Type 0} (e : TextReason) (n : ℕ) (got : Refusal TextReason) (all : Result B (Refusal TextReason))
    → got ≡ refusal_at (line_of_fault (fault_of e) n) e → (e ≡ reason.Memory) ⊎ (all ≡ Err (refusal_at n e))
    → (got ≡ refusal_at 0 reason.Memory) ⊎ (all ≡ Err got)
told e n got all is found =
    let none : e ≡ reason.Memory → got ≡ refusal_at 0 reason.Memory =
    λ m. is ∙ ap (λ (f : TextReason). refusal_at (line_of_fault (fault_of f) n) f) m in
    elim found [
      | inl m ↦ inl (none m)
      | inr bad ↦ elim (at_line e n) [
        | inl m ↦ inl (none m)
        | inr here ↦ inr (bad ∙ ap (λ (l : ℕ). Err (refusal_at l e)) (sym here) ∙ ap Err (sym is))
      ]
    ]
