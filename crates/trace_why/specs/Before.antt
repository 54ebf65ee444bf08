-- What the lines of a trace text before one of them give (this project's own format).
use Rattle.std.specs.Prelude.{ℕ, ◌&&◌, ◌==◌, Bool, false, List, [], ◌∷◌, Option, Some, None}
use Rattle.std.specs.Prelude.{option_map, unwrap_or, codes}
use Rattle.std.specs.Str.{bytes_eq}
use Rattle.lexer.specs.Before.{given}
use Rattle.lexer.specs.Spelled.{first_value, second_value}
use Rattle.lexer.specs.Words.{first_words, line_at}
use Rattle.lexer.specs.declared.refusal.Refusal.{Refusal}
use Rattle.trace_lines.specs.declared.reason.LineReason.{LineReason}
use Rattle.trace_lines.specs.declared.reason.LineReason.TheVariants as line
use Rattle.trace_text.specs.declared.reason.TraceReason.{TraceReason}
use Rattle.trace_text.specs.declared.reason.TraceReason.TheVariants as reason
use Rattle.trace_why.specs.declared.before.Wanted.{Wanted}
use Rattle.trace_why.specs.declared.before.Wanted.TheVariants as wanted

-- whether a line of a first word and of these numbers behind it gives what is wanted
abbrev pub first_word_gives : Wanted → List ℕ → ℕ → ℕ → Bool
first_word_gives wanted.Words word a b = bytes_eq word (codes "words")
first_word_gives (wanted.Init address) word a b = bytes_eq word (codes "init") && (a == address)
first_word_gives wanted.Issue word a b = bytes_eq word (codes "issue")
first_word_gives (wanted.IssueOf p) word a b = bytes_eq word (codes "issue") && (a == p)
first_word_gives (wanted.Answer p index) word a b =
    bytes_eq word (codes "answer") && (a == p) && (b == index)

-- whether the words of a line give what is wanted
abbrev pub gives_line : Wanted → List (List ℕ) → Bool
gives_line w [] = false
gives_line w (word ∷ values) = first_word_gives w word (first_value values) (second_value values)

-- what a line before a refused one gives, by the reason and the words behind the keyword, and how
-- many other lines before that give it come first
abbrev pub sought_in_line : LineReason → List (List ℕ) → Option (Wanted × ℕ)
sought_in_line line.WordsTwice values = Some (wanted.Words, 0)
sought_in_line line.InitLate values = Some (wanted.Issue, 0)
sought_in_line line.InitTwice values = Some (wanted.Init (first_value values), 0)
sought_in_line line.OkUnwanted values =
    Some (wanted.IssueOf (first_value values), second_value values)
sought_in_line line.NumberUnwanted values =
    Some (wanted.IssueOf (first_value values), second_value values)
sought_in_line _ values = None

abbrev pub sought_by : TraceReason → List (List ℕ) → Option (Wanted × ℕ)
sought_by (reason.Line why) values = sought_in_line why values
sought_by reason.AnsweredTwice values =
    Some (wanted.Answer (first_value values) (second_value values), 0)
sought_by _ values = None

-- the line before the line `stop` that gives what is sought
abbrev pub line_giving : Option (Wanted × ℕ) → ℕ → List (List ℕ) → ℕ
line_giving None stop lines = 0
line_giving (Some sought) stop lines =
    unwrap_or (option_map (λ p. p.0) (given (gives_line sought.0) stop sought.1 1 lines)) 0

-- the line before the line `stop` that gives what a reason seeks, by the words of the refused line;
-- 0 where none does
abbrev pub earlier_words : TraceReason → ℕ → List (List ℕ) → List (List ℕ) → ℕ
earlier_words why stop lines [] = 0
earlier_words why stop lines (word ∷ values) = line_giving (sought_by why values) stop lines

-- the line before a refused one that gives what its reason seeks, by the refused line, if it is
-- there; 0 where none does
abbrev pub earlier_at : Refusal TraceReason → List (List ℕ) → Option (List ℕ) → ℕ
earlier_at s lines (Some line) = earlier_words s.reason s.line lines (first_words line)
earlier_at s lines None = 0

-- the line before a refused one that the reason is about: that gave the same already, the first
-- issue, or the issue of the operation that is answered; 0 where the reason is about no line before
abbrev pub earlier_line : Refusal TraceReason → List (List ℕ) → ℕ
earlier_line s lines = earlier_at s lines (line_at s.line 1 lines)
