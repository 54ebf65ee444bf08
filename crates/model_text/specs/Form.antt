-- What stands after the keywords of a log (this project's own format).
use Rattle.std.specs.Prelude.{ℕ, ◌+◌, List, [], ◌∷◌, Option, Some, None, Result, Ok, Err}
use Rattle.std.specs.Prelude.{if◌then◌else◌, codes}
use Rattle.std.specs.Str.{bytes_eq}
use Rattle.lexer.specs.Outcome.{◌>>=◌}
use Rattle.trace_lines.specs.declared.form.Form.{Form}
use Rattle.trace_lines.specs.declared.reason.LineReason.{LineReason}
use Rattle.trace_lines.specs.declared.reason.LineReason.TheVariants as line
use Rattle.trace_lines.specs.Form.{number_at, spelled_form}

-- a fence, which has no word after it
abbrev pub only_fence : List (List ℕ) → Result (Option Form) LineReason
only_fence [] = Ok None
only_fence (word ∷ more) = Err line.OperandCount

-- the form of what a word and the words after it spell; none for a fence
abbrev pub spelled_step : List ℕ → List (List ℕ) → Result (Option Form) LineReason
spelled_step word operands =
    if bytes_eq word (codes "fence") then only_fence operands
    else (spelled_form word operands >>= λ form. Ok (Some form))

-- the numbers that a word at this place of its line and the next one spell
abbrev pub two_numbers : ℕ → List ℕ → List ℕ → Result (ℕ × ℕ) LineReason
two_numbers place a b = number_at place a >>= λ m. number_at (place + 1) b >>= λ n. Ok (m, n)
