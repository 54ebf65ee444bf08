-- The script text: what each line makes of what the lines before it made, and what the whole text
-- is.
use Rattle.std.specs.Prelude.{ℕ, ◌+◌, ◌&&◌, ◌==◌, not, nat_le, nat_lt, List, [], ◌∷◌, ◌++◌, length, replicate, slice_set}
use Rattle.std.specs.Prelude.{Option, Some, None, Result, Ok, Err, if◌then◌else◌}
use Rattle.torus.specs.declared.fault.Fault.{Fault}
use Rattle.torus.specs.Shape.{tiles_of}
use Rattle.lexer.specs.Words.{words_of, begins_comment}
use Rattle.lexer.specs.declared.fault.LineFault.{LineFault}
use Rattle.script_lines.specs.declared.line.Line.{Line}
use Rattle.lexer.specs.Outcome.{◌>>=◌, then_lines}
use Rattle.lexer.specs.declared.refusal.Refusal.{Refusal}
use Rattle.script.specs.declared.reason.TextReason.{TextReason}
use Rattle.script.specs.declared.reason.TextReason.TheVariants as reason
use Rattle.lexer.specs.Faults.{by_fault}
use Rattle.script.specs.Outcome.{unless, line_by_fault}
use Rattle.script.specs.Reasons.{fault_of}
use Rattle.script.specs.Settings.{number_at}
use Rattle.script.specs.Form.{form_of, line_of_form}
use Rattle.script_lines.specs.Lines.{ScriptsSpec, operation_count, mentions_last, script_of, script_with, scripts_with}
use Rattle.script_lines.specs.Machine.{MachineSpec}

-- why a line may not stand at the end of the script of a processor: no `last` where no operation
-- came before, and no more than 4096 operations of the processor and 65536 in all
abbrev pub no_room : List (List Line) → ℕ → Line → Option TextReason
no_room lists p line =
    if mentions_last line && (operation_count (script_of lists p) == 0) then Some reason.LastFirst
    else (if not (nat_le (script_with lists p line) 4096)
    then Some (reason.ScriptLength (script_with lists p line))
    else (if not (nat_le (scripts_with lists line) 65536)
    then Some (reason.ScriptsLength (scripts_with lists line))
    else None))

-- a line at the end of the script of a processor, where it may stand there
abbrev pub add_line : List (List Line) → ℕ → Line → Result (List (List Line)) TextReason
add_line lists p line =
    unless (no_room lists p line) (Ok (slice_set lists p (script_of lists p ++ line ∷ [])))

-- the processor and the line of a script that these words stand for, on a machine of so many tiles
-- and words: after the shape come the processor, the address and the numbers
abbrev pub line_or_why : ℕ → ℕ → List ℕ → List (List ℕ) → Result (ℕ × Line) TextReason
line_or_why tiles words processor rest =
    number_at 0 processor >>= λ p. form_of rest >>= λ form.
    if nat_lt p tiles then (line_of_form words form >>= λ line. Ok (p, line))
    else Err (reason.ProcessorLimits tiles)

-- the processor and the line of a script that these words stand for, or the fault of their refusal
abbrev pub line_for : ℕ → ℕ → List ℕ → List (List ℕ) → Result (ℕ × Line) Fault
line_for tiles words processor rest =
    line_by_fault fault_of (line_or_why tiles words processor rest)

-- what the words of a line make of the scripts; a line without words and a comment are skipped.
-- After its own faults come those of `last` and of the count
abbrev pub take_line : ℕ → List (List Line) → List ℕ → List (List ℕ)
    → Result (List (List Line)) TextReason
take_line words lists processor rest =
    line_or_why (length lists) words processor rest >>= λ found. add_line lists (found.0) (found.1)

abbrev pub after_words : ℕ → List (List Line) → List (List ℕ)
    → Result (List (List Line)) TextReason
after_words words lists [] = Ok lists
after_words words lists (processor ∷ rest) =
    if begins_comment processor then Ok lists else take_line words lists processor rest

-- the scripts of these lines, of which the first has this number, after those read; or the refusal
-- of the first bad line
abbrev pub scripts_from : ℕ → List (List Line) → ℕ → List (List ℕ)
    → Result ScriptsSpec (Refusal TextReason)
scripts_from words lists number [] = Ok (record { words = words; lists = lists })
scripts_from words lists number (line ∷ lines) =
    then_lines number (after_words words lists (words_of line))
    (λ next. scripts_from words next (number + 1) lines)

-- the scripts of a text for a machine, given as the list of its lines, or where and why the text is
-- refused; a processor without lines has the empty script
abbrev pub scripts_or_why : MachineSpec → List (List ℕ) → Result ScriptsSpec (Refusal TextReason)
scripts_or_why machine lines =
    scripts_from (length machine.opening) (replicate (tiles_of machine.shape) []) 1 lines

-- the scripts of a text for a machine, given as the list of its lines, or the fault and the line of
-- its refusal
abbrev pub scripts_of : MachineSpec → List (List ℕ) → Result ScriptsSpec LineFault
scripts_of machine lines = by_fault fault_of (scripts_or_why machine lines)
