-- Where a bad line is refused, and what a line more makes.
use Rattle.std.proofs.Common.{◌≡◌, ◌⊎◌, inl, inr, ℕ, ◌+◌, List, ◌∷◌, refl, sym, ◌∙◌, ap}
use Rattle.std.specs.Prelude.{Result, Ok, Err}
use Rattle.lexer.specs.declared.refusal.Refusal.{Refusal}
use Rattle.lexer.specs.Outcome.{line_of_fault, refusal_at, then_lines}
use Rattle.trace_lines.specs.declared.reason.LineReason.TheVariants as line
use Rattle.trace_lines.proofs.Refused.{at_line as line_at, refused_at}
use Rattle.model_text.specs.declared.reason.LogReason.{LogReason}
use Rattle.model_text.specs.declared.reason.LogReason.TheVariants as reason
use Rattle.model_text.specs.Lines.{after_words_of_log, log_from, log_words}
use Rattle.model_text.specs.Made.{LogLines}
use Rattle.model_text.specs.Reasons.{log_fault_of}

-- but for out of memory it stands at its line
at_line : (e : LogReason) (n : ℕ) → (e ≡ reason.Line line.Memory) ⊎ (line_of_fault (log_fault_of e) n ≡ n)
at_line (reason.Line why) n = elim (line_at why n) [
  | inl m ↦ inl (ap reason.Line m)
  | inr here ↦ inr here
]
at_line reason.UnknownKeyword n = inr refl
at_line (reason.WordCount keyword) n = inr refl
at_line reason.NotSource n = inr refl
at_line reason.OperationsLimits n = inr refl
at_line reason.AddressesLimits n = inr refl
at_line (reason.NotMade made) n = inr refl
at_line reason.FenceNamed n = inr refl
at_line reason.NotWrite n = inr refl
at_line reason.NotLoad n = inr refl
at_line reason.OtherWord n = inr refl
at_line reason.SourceTwice n = inr refl
at_line reason.SourceMissing n = inr refl
at_line reason.RepliedTwice n = inr refl
at_line reason.ReplyMissing n = inr refl
at_line reason.NotAnnotation n = inr refl
at_line reason.NotFenceOrder n = inr refl
at_line reason.NotReserved n = inr refl
at_line reason.ReservedWord n = inr refl
at_line reason.NotOn n = inr refl
at_line reason.NotDependency n = inr refl
at_line reason.NotBehind n = inr refl
at_line reason.GivesNothing n = inr refl
at_line reason.DataOfLoad n = inr refl
at_line reason.FinalTwice n = inr refl

-- it is what the reader answers
pub told : {A : Type 0} (e : LogReason) (n : ℕ) (got : Refusal LogReason) (all : Result A (Refusal LogReason))
    → got ≡ refusal_at (line_of_fault (log_fault_of e) n) e → (e ≡ reason.Line line.Memory) ⊎ (all ≡ Err (refusal_at n e))
    → (got ≡ refusal_at 0 (reason.Line line.Memory)) ⊎ (all ≡ Err got)
told e n got all is found = refused_at log_fault_of (reason.Line line.Memory) e n got all refl (at_line e n) is found

-- one more line of a log
pub log_step : (n : ℕ) (r new : LogLines) (line : List ℕ) (rest after ws : List (List ℕ)) (all : Result LogLines (Refusal LogReason)) →
    rest ≡ line ∷ after → ws ≡ log_words line → after_words_of_log r n ws ≡ Ok new → log_from r n rest ≡ all →
    log_from new (n + 1) after ≡ all
log_step n r new line rest after ws all is first made so_far =
    let here : after_words_of_log r n (log_words line) ≡ Ok new = ap (after_words_of_log r n) (sym first) ∙ made in
    sym (ap (λ m. then_lines n m (λ next. log_from next (n + 1) after)) here)
    ∙ sym (ap (log_from r n) is)
    ∙ so_far

-- a bad line of a log
pub log_refused : (n : ℕ) (r : LogLines) (line : List ℕ) (rest after ws : List (List ℕ)) (all : Result LogLines (Refusal LogReason)) (e : LogReason)
    → rest ≡ line ∷ after → ws ≡ log_words line → after_words_of_log r n ws ≡ Err e → log_from r n rest ≡ all → all ≡ Err (refusal_at n e)
log_refused n r line rest after ws all e is first made so_far =
    let here : after_words_of_log r n (log_words line) ≡ Err e = ap (after_words_of_log r n) (sym first) ∙ made in
    sym so_far ∙ ap (log_from r n) is ∙ ap (λ m. then_lines n m (λ next. log_from next (n + 1) after)) here
