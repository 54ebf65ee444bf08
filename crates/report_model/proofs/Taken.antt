-- What an item more makes of a log, and where a bad one is refused.
use Rattle.std.proofs.Common.{◌≡◌, ℕ, zero, suc, ◌+◌, drop, List, [], ◌∷◌, Some, None, sym, ◌∙◌, ap, arith}
use Rattle.std.proofs.Common.{slice_get}
use Rattle.std.specs.Prelude.{Result, Ok, Err}
use Rattle.lexer.specs.declared.refusal.Refusal.{Refusal}
use Rattle.lexer.specs.Outcome.{refusal_at, then_lines}
use Rattle.model_text.specs.declared.reason.LogReason.{LogReason}
use Rattle.model_text.specs.Made.{LogLines, nothing_logged}
use Rattle.report_model.specs.LogEntries.{begun_log, entries_log_from, entries_log}

drop_next : {E : Type 0} (entries : List E) (k : ℕ) (e : E) → slice_get entries k ≡ Some e → drop k entries ≡ e ∷ drop (k + 1) entries
drop_next [] k e is = absurd (let no : None ≡ Some e = is in cc)
drop_next (d ∷ entries) zero e is = ap (λ x. x ∷ entries) (let same : Some d ≡ Some e = is in cc)
drop_next (d ∷ entries) (suc k) e is =
    drop_next entries k e is
    ∙ ap (λ (n : ℕ). e ∷ drop n (d ∷ entries)) (let one : suc (k + 1) ≡ suc k + 1 = omega arith in one)

-- the beginning
pub entered_first : {E : Type 0} (line_of : ℕ → E → ℕ) (after : LogLines → ℕ → E → Result LogLines LogReason) (words : ℕ) (r new : LogLines)
    (entries : List E) → r ≡ nothing_logged → begun_log r words ≡ Ok new
    → entries_log_from line_of after new 1 entries ≡ entries_log line_of after words entries
entered_first line_of after words r new entries none made =
    sym (ap (λ m. then_lines 0 m (λ next. entries_log_from line_of after next 1 entries)) (ap (λ z. begun_log z words) (sym none) ∙ made))

-- one item more
pub entered : {E : Type 0} (line_of : ℕ → E → ℕ) (after : LogLines → ℕ → E → Result LogLines LogReason) (k : ℕ) (r new : LogLines) (entries : List E)
    (e : E) (all : Result LogLines (Refusal LogReason))
    → slice_get entries k ≡ Some e → after r (line_of (k + 1) e) e ≡ Ok new → entries_log_from line_of after r (k + 1) (drop k entries) ≡ all
    → entries_log_from line_of after new (k + 1 + 1) (drop (k + 1) entries) ≡ all
entered line_of after k r new entries e all is made so_far =
    sym (ap (λ m. then_lines (line_of (k + 1) e) m (λ next. entries_log_from line_of after next (k + 1 + 1) (drop (k + 1) entries))) made)
    ∙ (sym (ap (entries_log_from line_of after r (k + 1)) (drop_next entries k e is)) ∙ so_far)

-- a bad one
pub refused : {E : Type 0} (line_of : ℕ → E → ℕ) (after : LogLines → ℕ → E → Result LogLines LogReason) (k : ℕ) (r : LogLines) (entries : List E)
    (e : E) (why : LogReason) (all : Result LogLines (Refusal LogReason))
    → slice_get entries k ≡ Some e → after r (line_of (k + 1) e) e ≡ Err why → entries_log_from line_of after r (k + 1) (drop k entries) ≡ all
    → all ≡ Err (refusal_at (line_of (k + 1) e) why)
refused line_of after k r entries e why all is made so_far =
    sym so_far ∙ (ap (entries_log_from line_of after r (k + 1)) (drop_next entries k e is)
    ∙ ap (λ m. then_lines (line_of (k + 1) e) m (λ next. entries_log_from line_of after next (k + 1 + 1) (drop (k + 1) entries))) made)
