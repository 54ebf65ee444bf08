-- What stands after the processor of an operation and after the index of a reply (this project's
-- own formats).
use Rattle.std.specs.Prelude.{ℕ, Bool, not, ◌^◌, ◌==◌, nat_lt, List, [], ◌∷◌, Option, Some, None}
use Rattle.std.specs.Prelude.{ok_or, Result, Ok, Err, if◌then◌else◌, codes}
use Rattle.std.specs.Str.{bytes_eq}
use Rattle.packet.specs.declared.kinds.Code.{Code}
use Rattle.packet.specs.declared.kinds.Operation.{Operation}
use Rattle.packet.specs.declared.kinds.Reply.{Reply}
use Rattle.packet.specs.declared.kinds.Reply.TheVariants.{Old, Ok as Stored}
use Rattle.packet.specs.Names.{code_named, arity}
use Rattle.packet.specs.Kinds.{is_store}
use Rattle.packet.specs.Reading.{op_with}
use Rattle.lexer.specs.Numbers.{value_of}
use Rattle.lexer.specs.Outcome.{◌>>=◌}
use Rattle.trace_lines.specs.declared.form.Form.{Form}
use Rattle.trace_lines.specs.declared.reason.LineReason.{LineReason}
use Rattle.trace_lines.specs.declared.reason.LineReason.TheVariants as reason

-- the number that a word spells where one belongs, of the word at this place of its line; from 2^64
-- on they count as one
abbrev pub number_at : ℕ → List ℕ → Result ℕ LineReason
number_at place word = ok_or (value_of word) (reason.NotNumber place)

-- the forms of an operation and of one to three numbers after it: an address, and as many values as
-- the operation takes
abbrev pub one_operand : Code → List ℕ → Result Form LineReason
one_operand code a =
    if arity code == 0
    then (number_at 3 a >>= λ a. Ok (record { code = code; address = a; first = 0; second = 0 }))
    else Err reason.OperandCount

abbrev pub two_operands : Code → List ℕ → List ℕ → Result Form LineReason
two_operands code a v =
    if arity code == 1
    then (number_at 3 a >>= λ a. number_at 4 v >>= λ v.
    Ok (record { code = code; address = a; first = v; second = 0 }))
    else Err reason.OperandCount

abbrev pub three_operands : Code → List ℕ → List ℕ → List ℕ → Result Form LineReason
three_operands code a x y =
    if arity code == 2
    then (number_at 3 a >>= λ a. number_at 4 x >>= λ x. number_at 5 y >>= λ y.
    Ok (record { code = code; address = a; first = x; second = y }))
    else Err reason.OperandCount

-- the form of an operation and of the words after it
abbrev pub form_with : List (List ℕ) → Code → Result Form LineReason
form_with [] code = Err reason.OperandCount
form_with (a ∷ []) code = one_operand code a
form_with (a ∷ v ∷ []) code = two_operands code a v
form_with (a ∷ x ∷ y ∷ []) code = three_operands code a x y
form_with (a ∷ x ∷ y ∷ z ∷ more) code = Err reason.OperandCount

-- the form of what a word and the words after it spell: a known operation, the right count of
-- words, and numbers
abbrev pub spelled_form : List ℕ → List (List ℕ) → Result Form LineReason
spelled_form word operands =
    ok_or (code_named word) reason.UnknownOperation >>= form_with operands

-- a number at a place of its line is a word
abbrev pub limited_word : ℕ → ℕ → Result ℕ LineReason
limited_word place n = if nat_lt n (2 ^ 64) then Ok n else Err (reason.ValueLimits place)

-- the operation of a form: the address is below the number of words, and each value is a word, from
-- left to right
abbrev pub form_operation : ℕ → Form → Result Operation LineReason
form_operation words form =
    if nat_lt form.address words
    then (limited_word 4 form.first >>= λ first. limited_word 5 form.second >>= λ second.
    Ok (record { address = form.address; op = op_with form.code first second }))
    else Err (reason.AddressLimits 3 words)

-- the number of a reply; none for `ok`
abbrev pub told_of : List ℕ → Result (Option ℕ) LineReason
told_of word =
    if bytes_eq word (codes "ok") then Ok None
    else (ok_or (value_of word) reason.NotReply >>= λ n. Ok (Some n))

-- the reply that a line gives: its number is a word
abbrev pub reply_read : Option ℕ → Result Reply LineReason
reply_read None = Ok Stored
reply_read (Some n) = limited_word 3 n >>= λ w. Ok (Old w)

-- `ok` goes with a store, and a number with every other operation
abbrev pub goes_with : Code → Option ℕ → Bool
goes_with code None = is_store code
goes_with code (Some n) = not (is_store code)

-- why a reply is refused that goes with another operation
abbrev pub unwanted : Option ℕ → LineReason
unwanted None = reason.OkUnwanted
unwanted (Some n) = reason.NumberUnwanted

-- why a reply does not go with an operation of this code
abbrev pub unwanted_reply : Code → Option ℕ → Option LineReason
unwanted_reply code told = if goes_with code told then None else Some (unwanted told)
