-- The lines of a script text: their shape, and the checks of their numbers in order (this project's
-- own format).
use Rattle.std.specs.Prelude.{ℕ, ◌^◌, ◌&&◌, ◌==◌, nat_le, nat_lt, List, [], ◌∷◌, ok_or, option_map}
use Rattle.std.specs.Prelude.{Result, Ok, Err, if◌then◌else◌, codes}
use Rattle.std.specs.Str.{bytes_eq}
use Rattle.torus.specs.declared.fault.Fault.{Fault}
use Rattle.torus.specs.declared.fault.Fault.TheVariants as fault
use Rattle.packet.specs.declared.kinds.Code.{Code}
use Rattle.packet.specs.declared.kinds.Code.TheVariants as code
use Rattle.packet.specs.Names.{code_named, arity}
use Rattle.lexer.specs.Numbers.{value_of}
use Rattle.lexer.specs.Outcome.{◌>>=◌}
use Rattle.script_lines.specs.declared.line.Line.{Line}
use Rattle.script_lines.specs.declared.line.Line.TheVariants as line
use Rattle.script_lines.specs.declared.line.Value.{Value}
use Rattle.script_lines.specs.declared.line.Value.TheVariants as value
use Rattle.script.specs.declared.form.Operand.{Operand}
use Rattle.script.specs.declared.form.Operand.TheVariants.{Number, Last}
use Rattle.script.specs.declared.form.Form.{Form}
use Rattle.script.specs.declared.form.Form.TheVariants as form
use Rattle.script.specs.declared.reason.TextReason.{TextReason}
use Rattle.script.specs.declared.reason.TextReason.TheVariants as reason
use Rattle.script.specs.Settings.{number_at, value_at}

-- a value of an operation, at a place of its line: a number or the word `last`
abbrev pub operand_at : ℕ → List ℕ → Result Operand TextReason
operand_at place word = if bytes_eq word (codes "last") then Ok Last
    else ok_or (option_map Number (value_of word)) (reason.NotValue place)

-- the form of an operation: its address, and its values from left to right; a value that it has not
-- is 0
abbrev pub load_form : Code → List ℕ → Result Form TextReason
load_form code a = number_at 2 a >>= λ a. Ok (form.Operation code a (Number 0) (Number 0))

abbrev pub update_form : Code → List ℕ → List ℕ → Result Form TextReason
update_form code a v =
    number_at 2 a >>= λ a. operand_at 3 v >>= λ v. Ok (form.Operation code a v (Number 0))

abbrev pub cas_form : Code → List ℕ → List ℕ → List ℕ → Result Form TextReason
cas_form code a e n =
    number_at 2 a >>= λ a. operand_at 3 e >>= λ e. operand_at 4 n >>= λ n. Ok
    (form.Operation code a e n)

-- the words behind an operation: an address, and as many values as it takes
abbrev pub operation_form : List (List ℕ) → Code → Result Form TextReason
operation_form [] code = Err reason.OperandCount
operation_form (a ∷ []) code =
    if arity code == 0 then load_form code a else Err reason.OperandCount
operation_form (a ∷ v ∷ []) code =
    if arity code == 1 then update_form code a v else Err reason.OperandCount
operation_form (a ∷ e ∷ n ∷ []) code =
    if arity code == 2 then cas_form code a e n else Err reason.OperandCount
operation_form (a ∷ e ∷ n ∷ other ∷ more) code = Err reason.OperandCount

-- nothing stands behind `fence`
abbrev pub fence_form : List (List ℕ) → Result Form TextReason
fence_form [] = Ok form.Fence
fence_form (word ∷ more) = Err reason.OperandCount

-- the words behind `spin`, where no `last` may stand
abbrev pub spin_form : List (List ℕ) → Result Form TextReason
spin_form [] = Err reason.OperandCount
spin_form (a ∷ []) = Err reason.OperandCount
spin_form (a ∷ v ∷ []) = Err reason.OperandCount
spin_form (a ∷ v ∷ m ∷ []) =
    number_at 2 a >>= λ a. value_at 3 v >>= λ v. number_at 4 m >>= λ m. Ok (form.Spin a v m)
spin_form (a ∷ v ∷ m ∷ other ∷ more) = Err reason.OperandCount

-- the shape of what stands after the processor: a known keyword, the right count of words, and
-- numbers (or `last`) where they belong
abbrev pub form_of : List (List ℕ) → Result Form TextReason
form_of [] = Err reason.ProcessorAlone
form_of (keyword ∷ rest) =
    if bytes_eq keyword (codes "fence") then fence_form rest
    else (if bytes_eq keyword (codes "spin") then spin_form rest
    else (ok_or (code_named keyword) reason.UnknownOperation >>= operation_form rest))

-- an address is below the number of words; where only the fault is reported
abbrev pub below : ℕ → ℕ → Result (Unit {0}) Fault
below address words = if nat_lt address words then Ok tt else Err fault.Address

-- a number is a word of 64 bits; where only the fault is reported
abbrev pub checked_word : ℕ → Result ℕ Fault
checked_word number = if nat_lt number (2 ^ 64) then Ok number else Err fault.Range

-- the number at a place of its line is a word of 64 bits
abbrev pub word_at : ℕ → ℕ → Result ℕ TextReason
word_at place number = if nat_lt number (2 ^ 64) then Ok number else Err (reason.ValueLimits place)

-- the value at a place, whose number is a word
abbrev pub checked_at : ℕ → Operand → Result Value TextReason
checked_at place (Number number) = word_at place number >>= λ v. Ok (value.Number v)
checked_at place Last = Ok value.Last

-- the line of an operation of this name, with as many of these values as it takes
abbrev pub line_with : Code → ℕ → Value → Value → Line
line_with code.Load a v w = line.Load a
line_with code.Store a v w = line.Store a v
line_with code.Swap a v w = line.Swap a v
line_with code.Cas a v w = line.Cas a v w
line_with code.Add a v w = line.Add a v
line_with code.And a v w = line.And a v
line_with code.Or a v w = line.Or a v
line_with code.Xor a v w = line.Xor a v
line_with code.Max a v w = line.Max a v
line_with code.Min a v w = line.Min a v

-- the line of a shape: the address is below the number of words, each number is a word, from left
-- to right, and a spin has 1 to 4096 loads
abbrev pub line_of_form : ℕ → Form → Result Line TextReason
line_of_form words form.Fence = Ok line.Fence
line_of_form words (form.Operation code a v w) =
    if nat_lt a words
    then (checked_at 3 v >>= λ v. checked_at 4 w >>= λ w. Ok (line_with code a v w))
    else Err (reason.AddressLimits 2 words)
line_of_form words (form.Spin a v m) =
    if nat_lt a words
    then (word_at 3 v >>= λ v. if nat_le 1 m && nat_le m 4096
    then Ok (line.Spin a v m) else Err reason.SpinLimits)
    else Err (reason.AddressLimits 2 words)
