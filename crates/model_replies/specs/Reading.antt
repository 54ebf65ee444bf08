-- A log whose replies alone count: what its lines give, and what it must have (this project's own
-- format).
use Rattle.std.specs.Prelude.{ℕ, ◌+◌, ◌&&◌, not, Bool, true, false, List, [], ◌∷◌, Option, Some, None}
use Rattle.std.specs.Prelude.{option_map, find, is_some, Result, Ok, Err}
use Rattle.lexer.specs.Outcome.{then_lines, refusal_at}
use Rattle.lexer.specs.declared.refusal.Refusal.{Refusal}
use Rattle.memory_models.specs.declared.kinds.Kind.{Kind}
use Rattle.memory_models.specs.declared.kinds.Kind.TheVariants.{Load, Store, Atomic, Fence}
use Rattle.trace_lines.specs.Head.{head_missing}
use Rattle.trace_lines.specs.Reasons.{unless_refused}
use Rattle.model_text.specs.declared.logged.Logged.{Logged}
use Rattle.model_text.specs.declared.reason.LogReason.{LogReason}
use Rattle.model_text.specs.declared.reason.LogReason.TheVariants as reason
use Rattle.model_text.specs.Lines.{after_words_of_log, log_words}
use Rattle.model_text.specs.Made.{LogLines, nothing_logged}
use Rattle.model_text.specs.Traces.{kind_of_step}

-- whether an operation of a kind reads its word
abbrev pub reads_word : Kind → Bool
reads_word Load = true
reads_word Store = false
reads_word Atomic = true
reads_word Fence = false

-- whether an operation reads its word, and has no reply
abbrev pub lacks_reply : Logged → Bool
lacks_reply logged = reads_word (kind_of_step logged.operation) && not (is_some logged.told)

abbrev pub first_unreplied : List Logged → Option Logged
first_unreplied made = find lacks_reply made

-- each operation that reads its word has a reply; the first without one is refused where it is made
abbrev pub all_replied : LogLines → Option Logged → Result LogLines (Refusal LogReason)
all_replied r None = Ok r
all_replied r (Some logged) = Err (refusal_at logged.line reason.ReplyMissing)

-- the log of a text whose lines are these, the last of which has the number before this one
abbrev pub values_ended : LogLines → ℕ → Result LogLines (Refusal LogReason)
values_ended r number =
    then_lines number (unless_refused (option_map reason.Line (head_missing r.head)) (Ok r))
    (λ r. all_replied r (first_unreplied r.made))

-- the log of these lines, of which the first has this number, after what was read; or where and why
-- the first bad line is refused. What is missing shows at the line after the last
abbrev pub values_from : LogLines → ℕ → List (List ℕ) → Result LogLines (Refusal LogReason)
values_from r number [] = values_ended r number
values_from r number (line ∷ lines) =
    then_lines number (after_words_of_log r number (log_words line))
    (λ next. values_from next (number + 1) lines)

-- the log of a text, given as the list of its lines, or where and why it is refused
abbrev pub values_of : List (List ℕ) → Result LogLines (Refusal LogReason)
values_of lines = values_from nothing_logged 1 lines
