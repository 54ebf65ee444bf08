-- What `final` lines of a log make of it: the word that an address held at the end, as a load of what
-- its last write left, by a processor of its own (this project's own format).
use Rattle.std.specs.Prelude.{ℕ, ◌^◌, ◌==◌, not, nat_lt, Bool, true, false, List, [], ◌∷◌, ◌++◌}
use Rattle.std.specs.Prelude.{length, Option, Some, None, is_some, Result, Err, if◌then◌else◌}
use Rattle.packet.specs.declared.kinds.Op.TheVariants as op
use Rattle.packet.specs.declared.kinds.Reply.TheVariants.{Old}
use Rattle.lexer.specs.Outcome.{◌>>=◌}
use Rattle.trace_lines.specs.declared.reason.LineReason.TheVariants as line
use Rattle.trace_lines.specs.Head.{value_in, with_value}
use Rattle.trace_lines.specs.Reasons.{map_err, unless_refused}
use Rattle.model_text.specs.declared.logged.Logged.{Logged}
use Rattle.model_text.specs.declared.logged.Source.{Source}
use Rattle.model_text.specs.declared.logged.Source.TheVariants.{Untold, Own, Opening, Write, Last}
use Rattle.model_text.specs.declared.reason.LogKeyword.TheVariants as key
use Rattle.model_text.specs.declared.reason.LogReason.{LogReason}
use Rattle.model_text.specs.declared.reason.LogReason.TheVariants as reason
use Rattle.model_text.specs.Form.{two_numbers}
use Rattle.model_text.specs.Made.{LogLines, add_logged, number_of_address, with_address}

-- whether what was read is what the last write of the word left
abbrev pub is_last : Source → Bool
is_last Untold = false
is_last Own = false
is_last Opening = false
is_last (Write n) = false
is_last Last = true

-- whether a step is a final word
abbrev pub is_final : Logged → Bool
is_final step = is_last step.source

-- why a final word is refused: the number of words is not given, the address is not below that
-- number, the value is no word, or a line before named the address
abbrev pub final_wrong : LogLines → ℕ → ℕ → Option LogReason
final_wrong r address value =
    if r.head.words == 0 then Some (reason.Line line.WordsFirst)
    else (if not (nat_lt address r.head.words)
    then Some (reason.Line (line.AddressLimits 1 r.head.words))
    else (if not (nat_lt value (2 ^ 64)) then Some (reason.Line (line.ValueLimits 2))
    else (if is_some (value_in r.finals address) then Some reason.FinalTwice
    else None)))

-- a load at the end, by the next processor
abbrev pub final_step : LogLines → ℕ → ℕ → ℕ → Logged
final_step r line address value = record {
  line = line;
  processor = length r.rows;
  operation = Some (record { address = address; op = op.Load });
  word = number_of_address r address;
  source = Last;
  told = Some (record { line = line; reply = Old value });
}

-- a processor more, and its load; there are no more than 2^21 processors
abbrev pub add_final : LogLines → ℕ → ℕ → ℕ → Result LogLines LogReason
add_final r line address value =
    if not (nat_lt (length r.rows) (2 ^ 21)) then Err reason.AddressesLimits
    else add_logged (record r {
      rows = r.rows ++ [] ∷ [];
      finals = with_value r.finals address value;
    }) (final_step r line address value)

-- the address has a number, and then its final word
abbrev pub final_read : LogLines → ℕ → ℕ → ℕ → Result LogLines LogReason
final_read r line address value = unless_refused (final_wrong r address value)
    (with_address r address >>= λ next. add_final next line address value)

abbrev pub after_final_line : LogLines → ℕ → List (List ℕ) → Result LogLines LogReason
after_final_line r line (address ∷ value ∷ []) =
    map_err reason.Line (two_numbers 1 address value) >>= λ n. final_read r line n.0 n.1
after_final_line r line [] = Err (reason.WordCount key.Final)
after_final_line r line (address ∷ []) = Err (reason.WordCount key.Final)
after_final_line r line (address ∷ value ∷ other ∷ more) = Err (reason.WordCount key.Final)
