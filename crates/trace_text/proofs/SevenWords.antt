-- No line has more than six words that mean something, comments apart: seven tell that there are too many.
use Rattle.std.proofs.Common.{◌≡◌, ◌+◌, ℕ, List, [], ◌∷◌, take, ap, sym, refl, ◌∙◌}
use Rattle.std.specs.Prelude.{Result, Ok, Err}
use Rattle.lexer.specs.Words.{words_of}
use Rattle.lexer.specs.Outcome.{then_lines, refusal_at}
use Rattle.lexer.specs.declared.refusal.Refusal.{Refusal}
use Rattle.trace_text.specs.declared.reason.TraceReason.{TraceReason}
use Rattle.trace_text.specs.Traced.{TraceReading, TraceSpec, after_line_words, trace_from}

seven : (r : TraceReading) (line : ℕ) (ws : List (List ℕ)) → after_line_words r line (take 7 ws) ≡ after_line_words r line ws
seven r line [] = refl
seven r line (a ∷ []) = refl
seven r line (a ∷ b ∷ []) = refl
seven r line (a ∷ b ∷ c ∷ []) = refl
seven r line (a ∷ b ∷ c ∷ d ∷ []) = refl
seven r line (a ∷ b ∷ c ∷ d ∷ e ∷ []) = refl
seven r line (a ∷ b ∷ c ∷ d ∷ e ∷ f ∷ []) = refl
seven r line (a ∷ b ∷ c ∷ d ∷ e ∷ f ∷ g ∷ more) = refl

-- one more line of a trace text
pub trace_step : (n : ℕ) (r new : TraceReading) (line : List ℕ) (rest after ws : List (List ℕ)) (all : Result TraceSpec (Refusal TraceReason)) →
    rest ≡ line ∷ after → ws ≡ take 7 (words_of line) → after_line_words r n ws ≡ Ok new → trace_from r n rest ≡ all →
    trace_from new (n + 1) after ≡ all
trace_step n r new line rest after ws all is first made so_far =
    let here : after_line_words r n (words_of line) ≡ Ok new = sym (seven r n (words_of line)) ∙ ap (after_line_words r n) (sym first) ∙ made in
    sym (ap (λ m. then_lines n m (λ next. trace_from next (n + 1) after)) here)
    ∙ sym (ap (trace_from r n) is)
    ∙ so_far

-- a bad line of a trace text
pub trace_refused : (n : ℕ) (r : TraceReading) (line : List ℕ) (rest after ws : List (List ℕ)) (all : Result TraceSpec (Refusal TraceReason)) (e : TraceReason)
    → rest ≡ line ∷ after → ws ≡ take 7 (words_of line) → after_line_words r n ws ≡ Err e → trace_from r n rest ≡ all → all ≡ Err (refusal_at n e)
trace_refused n r line rest after ws all e is first made so_far =
    let here : after_line_words r n (words_of line) ≡ Err e = sym (seven r n (words_of line)) ∙ ap (after_line_words r n) (sym first) ∙ made in
    sym so_far ∙ ap (trace_from r n) is ∙ ap (λ m. then_lines n m (λ next. trace_from next (n + 1) after)) here
