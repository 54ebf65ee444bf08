-- Where a bad line is refused, and what a line more makes.
use Rattle.std.proofs.Common.{◌≡◌, ℕ, ◌+◌, List, ◌∷◌, sym, ◌∙◌, ap}
use Rattle.std.specs.Prelude.{Result, Ok, Err}
use Rattle.lexer.specs.declared.refusal.Refusal.{Refusal}
use Rattle.lexer.specs.Outcome.{refusal_at, then_lines}
use Rattle.model_text.specs.declared.reason.LogReason.{LogReason}
use Rattle.model_text.specs.Lines.{after_words_of_log, log_words}
use Rattle.model_text.specs.Made.{LogLines}
use Rattle.model_replies.specs.Reading.{values_from}

-- one more line of a log
pub log_step : (n : ℕ) (r new : LogLines) (line : List ℕ) (rest after ws : List (List ℕ)) (all : Result LogLines (Refusal LogReason)) →
    rest ≡ line ∷ after → ws ≡ log_words line → after_words_of_log r n ws ≡ Ok new → values_from r n rest ≡ all →
    values_from new (n + 1) after ≡ all
log_step n r new line rest after ws all is first made so_far =
    let here : after_words_of_log r n (log_words line) ≡ Ok new = ap (after_words_of_log r n) (sym first) ∙ made in
    sym (ap (λ m. then_lines n m (λ next. values_from next (n + 1) after)) here)
    ∙ sym (ap (values_from r n) is)
    ∙ so_far

-- a bad line of a log
pub log_refused : (n : ℕ) (r : LogLines) (line : List ℕ) (rest after ws : List (List ℕ)) (all : Result LogLines (Refusal LogReason)) (e : LogReason)
    → rest ≡ line ∷ after → ws ≡ log_words line → after_words_of_log r n ws ≡ Err e → values_from r n rest ≡ all → all ≡ Err (refusal_at n e)
log_refused n r line rest after ws all e is first made so_far =
    let here : after_words_of_log r n (log_words line) ≡ Err e = ap (after_words_of_log r n) (sym first) ∙ made in
    sym so_far ∙ ap (values_from r n) is ∙ ap (λ m. then_lines n m (λ next. values_from next (n + 1) after)) here
