-- The log text: what each line makes of what the lines before it gave, and what the whole text is
-- (this project's own format).
use Rattle.std.specs.Prelude.{ℕ, ◌+◌, ◌==◌, not, List, [], ◌∷◌, length, take, Option, Some, None}
use Rattle.std.specs.Prelude.{option_map, find, Result, Ok, Err, if◌then◌else◌, codes}
use Rattle.std.specs.Str.{bytes_eq}
use Rattle.lexer.specs.Words.{words_of, begins_comment}
use Rattle.lexer.specs.Outcome.{◌>>=◌, then_lines, refusal_at}
use Rattle.lexer.specs.declared.refusal.Refusal.{Refusal}
use Rattle.trace_lines.specs.declared.reason.LineReason.{LineReason}
use Rattle.trace_lines.specs.Head.{HeadSpec, after_title, after_words_line, after_init_line}
use Rattle.trace_lines.specs.Head.{head_missing}
use Rattle.trace_lines.specs.Reasons.{map_err, unless_refused}
use Rattle.model_text.specs.declared.logged.Logged.{Logged}
use Rattle.model_text.specs.declared.reason.LogReason.{LogReason}
use Rattle.model_text.specs.declared.reason.LogReason.TheVariants as reason
use Rattle.model_text.specs.Depends.{after_depends_line}
use Rattle.model_text.specs.Finals.{after_final_line}
use Rattle.model_text.specs.Made.{LogLines, nothing_logged, after_made_line}
use Rattle.model_text.specs.Sources.{after_wrote_line, after_read_line, after_served_line}
use Rattle.model_text.specs.Sources.{after_replied_line, is_told}

-- what a line of the head makes of it
abbrev pub head_logged : LogLines → Result HeadSpec LineReason → Result LogLines LogReason
head_logged r made = map_err reason.Line made >>= λ head. Ok (record r { head = head })

-- what a line of a keyword and these words makes of it
abbrev pub after_keyword : LogLines → ℕ → List ℕ → List (List ℕ) → Result LogLines LogReason
after_keyword r line keyword values =
    if not r.head.begun then head_logged r (after_title r.head (codes "log") keyword values)
    else (if bytes_eq keyword (codes "made") then after_made_line r line values
    else (if bytes_eq keyword (codes "wrote") then after_wrote_line r values
    else (if bytes_eq keyword (codes "read") then after_read_line r values
    else (if bytes_eq keyword (codes "served") then after_served_line r values
    else (if bytes_eq keyword (codes "replied") then after_replied_line r line values
    else (if bytes_eq keyword (codes "depends") then after_depends_line r values
    else (if bytes_eq keyword (codes "final") then after_final_line r line values
    else (if bytes_eq keyword (codes "init")
    then head_logged r (after_init_line r.head (not (length r.made == 0)) values)
    else (if bytes_eq keyword (codes "words") then head_logged r (after_words_line r.head values)
    else Err reason.UnknownKeyword)))))))))

-- the words of a line that count: a line that means something has fewer than 10, comments apart
abbrev pub log_words : List ℕ → List (List ℕ)
log_words line = take 10 (words_of line)

-- what the words of a line make of it; a line without words and a comment are skipped
abbrev pub after_words_of_log : LogLines → ℕ → List (List ℕ) → Result LogLines LogReason
after_words_of_log r line [] = Ok r
after_words_of_log r line (keyword ∷ values) =
    if begins_comment keyword then Ok r else after_keyword r line keyword values

-- the first operation of which no line says what it read, or where it stands among the writes
abbrev pub first_untold : List Logged → Option Logged
first_untold made = find (λ logged. not (is_told logged.source)) made

-- each operation has its place
abbrev pub all_told : LogLines → Option Logged → Result LogLines (Refusal LogReason)
all_told r None = Ok r
all_told r (Some logged) = Err (refusal_at logged.line reason.SourceMissing)

-- the log of a text whose lines are these, the last of which has the number before this one
abbrev pub log_ended : LogLines → ℕ → Result LogLines (Refusal LogReason)
log_ended r number =
    then_lines number (unless_refused (option_map reason.Line (head_missing r.head)) (Ok r))
    (λ r. all_told r (first_untold r.made))

-- the log of these lines, of which the first has this number, after what was read; or where and why
-- the first bad line is refused. What is missing shows at the line after the last
abbrev pub log_from : LogLines → ℕ → List (List ℕ) → Result LogLines (Refusal LogReason)
log_from r number [] = log_ended r number
log_from r number (line ∷ lines) =
    then_lines number (after_words_of_log r number (log_words line))
    (λ next. log_from next (number + 1) lines)

-- the log of a text, given as the list of its lines, or where and why it is refused
abbrev pub log_of : List (List ℕ) → Result LogLines (Refusal LogReason)
log_of lines = log_from nothing_logged 1 lines
