-- What `made` lines of a log make of what the lines before them gave (this project's own format).
use Rattle.std.specs.Prelude.{ℕ, ◌^◌, ◌==◌, not, nat_lt, List, [], ◌∷◌, ◌++◌, length, take, drop, Option}
use Rattle.std.specs.Prelude.{Some, None, is_some, unwrap_or, Result, Ok, Err, if◌then◌else◌}
use Rattle.packet.specs.declared.kinds.Operation.{Operation}
use Rattle.lexer.specs.Outcome.{◌>>=◌}
use Rattle.trace_lines.specs.declared.form.Form.{Form}
use Rattle.trace_lines.specs.Form.{number_at, form_operation}
use Rattle.trace_lines.specs.Head.{HeadSpec, no_head, value_in, with_value, processor_read}
use Rattle.trace_lines.specs.Reasons.{map_err}
use Rattle.weak_models.specs.declared.notes.Dependency.{Dependency}
use Rattle.weak_models.specs.declared.notes.Note.{Note}
use Rattle.model_text.specs.declared.annotation.Annotation.{Annotation}
use Rattle.model_text.specs.declared.annotation.PairPart.{PairPart}
use Rattle.model_text.specs.declared.annotation.PairPart.TheVariants.{Neither, Reserved, Conditional}
use Rattle.model_text.specs.declared.annotation.Reservation.{Reservation}
use Rattle.model_text.specs.declared.logged.Logged.{Logged}
use Rattle.model_text.specs.declared.logged.Source.TheVariants.{Untold, Own}
use Rattle.model_text.specs.declared.reason.LogKeyword.TheVariants as key
use Rattle.model_text.specs.declared.reason.LogReason.{LogReason}
use Rattle.model_text.specs.declared.reason.LogReason.TheVariants as reason
use Rattle.model_text.specs.Annotations.{operand_count, step_annotation}
use Rattle.model_text.specs.Form.{spelled_step}
use Rattle.model_text.specs.Rows.{no_rows, with_row_number}

-- what the lines so far gave: the head, the addresses that occur, each with its number, and by
-- number, the numbers of each processor's operations in program order, those of each word's writes
-- in the word's order, the operations by number, what `made` lines say of them beside their kinds, the
-- last load reserved of each processor, if no store conditional came behind it, and dependencies; all
-- by numbers; and the final words, by address
pub record LogLines : Type 0 where
  pub head : HeadSpec
  pub places : List (ℕ × ℕ)
  pub addresses : List ℕ
  pub rows : List (List ℕ)
  pub orders : List (List ℕ)
  pub made : List Logged
  pub notes : List (ℕ × Note)
  pub reserved : List (ℕ × Option Reservation)
  pub dependencies : List Dependency
  pub finals : List (ℕ × ℕ)

-- nothing is given
abbrev pub nothing_logged : LogLines
nothing_logged = record {
  head = no_head;
  places = [];
  addresses = [];
  rows = no_rows 4096;
  orders = no_rows 0;
  made = [];
  notes = [];
  reserved = [];
  dependencies = [];
  finals = [];
}

-- an address has a number: its own, or the next one, with no write so far. There are no more than
-- 2^20
abbrev pub with_address : LogLines → ℕ → Result LogLines LogReason
with_address r address =
    if is_some (value_in r.places address) then Ok r
    else (if not (nat_lt (length r.addresses) (2 ^ 20)) then Err reason.AddressesLimits
    else Ok (record r {
      places = with_value r.places address (length r.addresses);
      addresses = r.addresses ++ address ∷ [];
      orders = r.orders ++ [] ∷ [];
    }))

-- the number of an address among those that occur
abbrev pub number_of_address : LogLines → ℕ → ℕ
number_of_address r address = unwrap_or (value_in r.places address) 0

-- one operation more, whose number is how many were made before; there are no more than 2^22
abbrev pub add_logged : LogLines → Logged → Result LogLines LogReason
add_logged r logged =
    if not (nat_lt (length r.made) (2 ^ 22)) then Err reason.OperationsLimits
    else Ok (record r {
      rows = with_row_number r.rows logged.processor (length r.made);
      made = r.made ++ logged ∷ [];
    })

-- an operation of a processor, of which no line says so far what it read or wrote
abbrev pub add_operation : LogLines → ℕ → ℕ → Operation → Result LogLines LogReason
add_operation r line p o = with_address r o.address >>= λ next. add_logged next (record {
  line = line;
  processor = p;
  operation = Some o;
  word = number_of_address next o.address;
  source = Untold;
  told = None;
})

-- a fence, or an operation whose address and values are in their ranges
abbrev pub add_step : LogLines → ℕ → ℕ → Option Form → Result LogLines LogReason
add_step r line p None = add_logged r
    (record { line = line; processor = p; operation = None; word = 0; source = Own; told = None })
add_step r line p (Some form) =
    map_err reason.Line (form_operation r.head.words form) >>= add_operation r line p

-- a store conditional is paired with the last load reserved or store conditional of its processor
-- before it, which must be a load reserved, on its word
abbrev pub pair_with : Option Reservation → ℕ → Result (Option ℕ) LogReason
pair_with None address = Err reason.NotReserved
pair_with (Some load) address =
    if load.address == address then Ok (Some load.number) else Err reason.ReservedWord

abbrev pub pair_of : LogLines → ℕ → ℕ → PairPart → Result (Option ℕ) LogReason
pair_of r p address Neither = Ok None
pair_of r p address Reserved = Ok None
pair_of r p address Conditional = pair_with (unwrap_or (value_in r.reserved p) None) address

-- what is reserved behind an operation of a processor with this number and address
abbrev pub with_reserved : LogLines → ℕ → Option Reservation → LogLines
with_reserved r p load = record r { reserved = with_value r.reserved p load }

abbrev pub reserve : LogLines → ℕ → ℕ → ℕ → PairPart → Result LogLines LogReason
reserve r p number address Neither = Ok r
reserve r p number address Reserved =
    Ok (with_reserved r p (Some (record { number = number; address = address })))
reserve r p number address Conditional = Ok (with_reserved r p None)

-- the note that an annotation makes
abbrev pub note_of : Annotation → Option ℕ → Note
note_of a pair = record {
  acquire = a.acquire;
  release = a.release;
  rcpc = a.rcpc;
  pair = pair;
  fence = a.fence;
}

-- an operation has a note
abbrev pub with_note : LogLines → ℕ → Note → LogLines
with_note r number note = record r { notes = with_value r.notes number note }

-- an operation has an annotation
abbrev pub annotated : LogLines → ℕ → ℕ → ℕ → Annotation → Result LogLines LogReason
annotated r p number address a = pair_of r p address a.part >>= λ pair.
    reserve (with_note r number (note_of a pair)) p number address a.part

abbrev pub annotated_if : LogLines → ℕ → ℕ → ℕ → Option Annotation → Result LogLines LogReason
annotated_if r p number address None = Ok r
annotated_if r p number address (Some a) = annotated r p number address a

-- the address of what is made; a fence has none
abbrev pub address_in : Option Form → ℕ
address_in None = 0
address_in (Some form) = form.address

-- the number of words is given, and the processor is below 4096; what is made has the next number
abbrev pub made_read : LogLines → ℕ → ℕ → Option Form → Option Annotation
    → Result LogLines LogReason
made_read r line p step annotation =
    map_err reason.Line (processor_read r.head p) >>= λ p. add_step r line p step >>= λ next.
    annotated_if next p (length r.made) (address_in step) annotation

-- what stands behind the processor: an operation with its operands, and its annotation
abbrev pub step_read : LogLines → ℕ → ℕ → List ℕ → List (List ℕ) → Result LogLines LogReason
step_read r line p word words =
    map_err reason.Line (spelled_step word (take (operand_count word words) words)) >>= λ step.
    step_annotation step (drop (operand_count word words) words) >>= made_read r line p step

abbrev pub after_made_line : LogLines → ℕ → List (List ℕ) → Result LogLines LogReason
after_made_line r line (processor ∷ word ∷ words) =
    map_err reason.Line (number_at 1 processor) >>= λ p. step_read r line p word words
after_made_line r line [] = Err (reason.WordCount key.Made)
after_made_line r line (processor ∷ []) = Err (reason.WordCount key.Made)
