-- Where a bad line is refused.
use Rattle.std.proofs.Common.{◌≡◌, ◌⊎◌, inl, inr, ℕ, refl, ap}
use Rattle.std.specs.Prelude.{Result, Ok, Err}
use Rattle.torus.specs.declared.fault.Fault.TheVariants as fault
use Rattle.lexer.specs.declared.refusal.Refusal.{Refusal}
use Rattle.lexer.specs.Outcome.{line_of_fault, refusal_at}
use Rattle.lexer.specs.Faults.{fault_of_refusal, by_fault}
use Rattle.trace_lines.specs.declared.reason.LineReason.TheVariants as line
use Rattle.trace_lines.proofs.Refused.{at_line as line_at, refused_at}
use Rattle.trace_text.specs.declared.reason.TraceReason.{TraceReason}
use Rattle.trace_text.specs.declared.reason.TraceReason.TheVariants as reason
use Rattle.trace_text.specs.Reasons.{trace_fault_of}

-- but for out of memory it stands at its line
at_line : (e : TraceReason) (n : ℕ) → (e ≡ reason.Line line.Memory) ⊎ (line_of_fault (trace_fault_of e) n ≡ n)
at_line (reason.Line why) n = elim (line_at why n) [
  | inl m ↦ inl (ap reason.Line m)
  | inr here ↦ inr here
]
at_line reason.UnknownKeyword n = inr refl
at_line (reason.WordCount keyword) n = inr refl
at_line reason.OperationsLimits n = inr refl
at_line reason.AddressesLimits n = inr refl
at_line (reason.NotIssued issued) n = inr refl
at_line reason.AnsweredTwice n = inr refl

-- it is what the reader answers
pub told : {A : Type 0} (e : TraceReason) (n : ℕ) (got : Refusal TraceReason) (all : Result A (Refusal TraceReason))
    → got ≡ refusal_at (line_of_fault (trace_fault_of e) n) e → (e ≡ reason.Line line.Memory) ⊎ (all ≡ Err (refusal_at n e))
    → (got ≡ refusal_at 0 (reason.Line line.Memory)) ⊎ (all ≡ Err got)
told e n got all is found = refused_at trace_fault_of (reason.Line line.Memory) e n got all refl (at_line e n) is found

-- and by its fault
pub told_by_fault : {A : Type 0} (e : Refusal TraceReason) (all : Result A (Refusal TraceReason))
    → (e ≡ refusal_at 0 (reason.Line line.Memory)) ⊎ (all ≡ Err e)
    → (fault_of_refusal trace_fault_of e ≡ record { fault = fault.Memory; line = 0 })
    ⊎ (by_fault trace_fault_of all ≡ Err (fault_of_refusal trace_fault_of e))
told_by_fault e all found = elim found [
  | inl m ↦ inl (ap (fault_of_refusal trace_fault_of) m)
  | inr bad ↦ inr (ap (by_fault trace_fault_of) bad)
]

-- what is read where only the fault is reported
pub read_by_fault : {A : Type 0} (all : Result A (Refusal TraceReason)) (t : A) → by_fault trace_fault_of all ≡ Ok t → all ≡ Ok t
read_by_fault (Ok x) t h = cc
read_by_fault (Err e) t h = absurd (cc)
