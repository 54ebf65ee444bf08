-- What the words of a line of a trace give (this project's own format).
use Rattle.std.specs.Prelude.{◌≡◌, ◌⊎◌, ◌<◌, ℕ, Bool, not, nat_lt, List, [], ◌∷◌, Option, Result, Ok, Err}
use Rattle.std.specs.Prelude.{if◌then◌else◌, codes}
use Rattle.std.specs.Str.{bytes_eq}
use Rattle.lexer.specs.Outcome.{◌>>=◌}
use Rattle.lexer.specs.Words.{begins_comment}
use Rattle.trace_lines.specs.declared.form.Form.{Form}
use Rattle.trace_lines.specs.declared.reason.LineReason.{LineReason}
use Rattle.trace_lines.specs.declared.reason.LineReason.TheVariants as line
use Rattle.trace_lines.specs.Form.{number_at, spelled_form, form_operation, told_of}
use Rattle.trace_lines.specs.Head.{HeadSpec, after_title, after_words_line, after_init_line}
use Rattle.trace_lines.specs.Head.{processor_read}
use Rattle.trace_lines.specs.Reasons.{map_err}
use Rattle.trace_text.specs.declared.line.TraceLine.{TraceLine}
use Rattle.trace_text.specs.declared.line.TraceLine.TheVariants.{Nothing, Issue, Answer}
use Rattle.trace_text.specs.declared.reason.Keyword.TheVariants as key
use Rattle.trace_text.specs.declared.reason.TraceReason.{TraceReason}
use Rattle.trace_text.specs.declared.reason.TraceReason.TheVariants as reason

-- the processor of an event is below 4096
abbrev pub HasProcessor : TraceLine → Type 0
HasProcessor Nothing = Unit {0}
HasProcessor (Issue p o) = p < 4096
HasProcessor (Answer p index told) = p < 4096

-- a line of the head leaves this head, and gives nothing else
abbrev pub head_given : Result HeadSpec LineReason → Result (HeadSpec × TraceLine) TraceReason
head_given made = map_err reason.Line made >>= λ head. Ok (head, Nothing)

-- an event leaves the head as it is
abbrev pub event_given :
    HeadSpec → Result TraceLine TraceReason → Result (HeadSpec × TraceLine) TraceReason
event_given h read = read >>= λ event. Ok (h, event)

-- the number of words is that of a trace or a log, and at most so many
abbrev pub words_within : ℕ → HeadSpec → List (List ℕ) → Result HeadSpec LineReason
words_within most h values = after_words_line h values >>= λ next.
    if nat_lt most next.words then Err line.WordsLimits else Ok next

-- an issue: the number of words is given, the processor is below 4096, and the address and the
-- values are in their ranges
abbrev pub issue_of_form : HeadSpec → ℕ → Form → Result TraceLine TraceReason
issue_of_form h p form =
    map_err reason.Line (processor_read h p) >>= λ p.
    map_err reason.Line (form_operation h.words form) >>= λ o. Ok (Issue p o)

abbrev pub issue_given : HeadSpec → List (List ℕ) → Result TraceLine TraceReason
issue_given h (processor ∷ word ∷ operands) =
    map_err reason.Line (number_at 1 processor) >>= λ p.
    map_err reason.Line (spelled_form word operands) >>= issue_of_form h p
issue_given h [] = Err (reason.WordCount key.Issue)
issue_given h (processor ∷ []) = Err (reason.WordCount key.Issue)

-- an answer: the number of words is given, and the processor is below 4096
abbrev pub answer_given : HeadSpec → List (List ℕ) → Result TraceLine TraceReason
answer_given h (processor ∷ index ∷ reply ∷ []) =
    map_err reason.Line (number_at 1 processor) >>= λ p.
    map_err reason.Line (number_at 2 index) >>= λ k.
    map_err reason.Line (told_of reply) >>= λ told.
    map_err reason.Line (processor_read h p) >>= λ p. Ok (Answer p k told)
answer_given h [] = Err (reason.WordCount key.Answer)
answer_given h (processor ∷ []) = Err (reason.WordCount key.Answer)
answer_given h (processor ∷ index ∷ []) = Err (reason.WordCount key.Answer)
answer_given h (processor ∷ index ∷ reply ∷ other ∷ more) = Err (reason.WordCount key.Answer)

-- what a line of a keyword and these words gives, and the head that it leaves; the memory has at
-- most so many words, and an opening word may be late
abbrev pub keyword_given : ℕ → Bool → HeadSpec → List ℕ → List (List ℕ)
    → Result (HeadSpec × TraceLine) TraceReason
keyword_given most late h keyword values =
    if not h.begun then head_given (after_title h (codes "trace") keyword values)
    else (if bytes_eq keyword (codes "issue") then event_given h (issue_given h values)
    else (if bytes_eq keyword (codes "answer") then event_given h (answer_given h values)
    else (if bytes_eq keyword (codes "init") then head_given (after_init_line h late values)
    else (if bytes_eq keyword (codes "words") then head_given (words_within most h values)
    else Err reason.UnknownKeyword))))

-- what the words of a line give; a line without words and a comment are skipped
abbrev pub line_given : ℕ → Bool → HeadSpec → List (List ℕ)
    → Result (HeadSpec × TraceLine) TraceReason
line_given most late h [] = Ok (h, Nothing)
line_given most late h (keyword ∷ values) =
    if begins_comment keyword then Ok (h, Nothing) else keyword_given most late h keyword values

-- a line leaves this head and gives what it has to give; or it is refused for its reason, or for
-- want of memory
abbrev pub ReadsLine : HeadSpec → Result TraceLine TraceReason
    → Result (HeadSpec × TraceLine) TraceReason → Type 0
ReadsLine head (Ok given) read = read ≡ Ok (head, given)
ReadsLine head (Err e) read = (e ≡ reason.Line line.Memory) ⊎ (read ≡ Err e)
