-- The trace text: what each line makes of what the lines before it made, and what the whole text is
-- (this project's own format).
use Rattle.std.specs.Prelude.{ℕ, ◌+◌, ◌^◌, ◌==◌, not, nat_lt, List, [], ◌∷◌, ◌++◌, length, map}
use Rattle.std.specs.Prelude.{slice_get, slice_set, Option, Some, None, is_some, option_map, ok_or}
use Rattle.std.specs.Prelude.{unwrap_or, Result, Ok, Err, if◌then◌else◌}
use Rattle.std.specs.List.{range_with_len}
use Rattle.packet.specs.declared.kinds.Operation.{Operation}
use Rattle.packet.specs.Kinds.{code_of}
use Rattle.trace_laws.specs.declared.event.Event.{Event}
use Rattle.trace_laws.specs.declared.event.Event.TheVariants.{Issue, Answer}
use Rattle.lexer.specs.Words.{words_of}
use Rattle.lexer.specs.Outcome.{◌>>=◌, then_lines}
use Rattle.lexer.specs.declared.refusal.Refusal.{Refusal}
use Rattle.lexer.specs.declared.fault.LineFault.{LineFault}
use Rattle.lexer.specs.Faults.{by_fault}
use Rattle.trace_lines.specs.Form.{reply_read, unwanted_reply}
use Rattle.trace_lines.specs.Head.{HeadSpec, no_head, value_in, with_value, head_missing}
use Rattle.trace_lines.specs.Reasons.{map_err, unless_refused}
use Rattle.trace_text.specs.declared.issued.Issued.{Issued}
use Rattle.trace_text.specs.declared.line.TraceLine.{TraceLine}
use Rattle.trace_text.specs.declared.line.TraceLine.TheVariants as given
use Rattle.trace_text.specs.declared.line.TraceLine.TheVariants.{Nothing}
use Rattle.trace_text.specs.declared.reason.TraceReason.{TraceReason}
use Rattle.trace_text.specs.declared.reason.TraceReason.TheVariants as reason
use Rattle.trace_text.specs.IssueNumbers.{no_numbers, numbers_of, with_number}
use Rattle.trace_text.specs.Lines.{line_given}
use Rattle.trace_text.specs.Reasons.{trace_fault_of}

-- a trace as its text gives it: the words of the memory, those that `init` lines named with their
-- opening values, the operations in the order of issue, the events (an issue has the number of
-- issues before it), and the line of each event
pub record TraceSpec : Type 0 where
  pub words : ℕ
  pub inits : List (ℕ × ℕ)
  pub issued : List Issued
  pub events : List Event
  pub lines : List ℕ

-- the opening words by address: 0 where no `init` line says otherwise
abbrev pub opening_of : TraceSpec → List ℕ
opening_of t = map (λ a. unwrap_or (value_in t.inits a) 0) (range_with_len 0 t.words)

-- what the lines so far gave: the head; the addresses of the operations, each with the number of
-- those that came before it; for each processor the numbers of its issues; and the rest of the
-- trace
pub record TraceReading : Type 0 where
  pub head : HeadSpec
  pub places : List (ℕ × ℕ)
  pub addresses : List ℕ
  pub numbers : List (List ℕ)
  pub issued : List Issued
  pub events : List Event
  pub lines : List ℕ

-- nothing is given
abbrev pub no_trace_read : TraceReading
no_trace_read = record {
  head = no_head;
  places = [];
  addresses = [];
  numbers = no_numbers;
  issued = [];
  events = [];
  lines = [];
}

-- an address has a place: its own, or the next one. There are no more than 2^20
abbrev pub placed : TraceReading → ℕ → Result TraceReading TraceReason
placed r address =
    if is_some (value_in r.places address) then Ok r
    else (if not (nat_lt (length r.addresses) (2 ^ 20)) then Err reason.AddressesLimits
    else Ok (record r {
      places = with_value r.places address (length r.addresses);
      addresses = r.addresses ++ address ∷ [];
    }))

-- one event more, at a line
abbrev pub with_event : TraceReading → ℕ → Event → TraceReading
with_event r line event = record r { events = r.events ++ event ∷ []; lines = r.lines ++ line ∷ [] }

-- one operation more, at a line: its number is how many were issued before
abbrev pub with_issue : TraceReading → ℕ → ℕ → Operation → TraceReading
with_issue r line p o = with_event (record r {
  numbers = with_number r.numbers p (length r.issued);
  issued = r.issued ++ record {
    processor = p;
    index = length (numbers_of r.numbers p);
    operation = o;
    reply = None;
  } ∷ [];
}) line (Issue (record { id = length r.issued; operation = o }))

-- no more than 2^22 operations are issued, on no more than 2^20 addresses
abbrev pub add_issue : TraceReading → ℕ → ℕ → Operation → Result TraceReading TraceReason
add_issue r line p o =
    if not (nat_lt (length r.issued) (2 ^ 22)) then Err reason.OperationsLimits
    else (placed r o.address >>= λ next. Ok (with_issue next line p o))

-- one answer more, at a line, to the operation of a number
abbrev pub with_answer :
    TraceReading → ℕ → ℕ → Issued → Option ℕ → Result TraceReading TraceReason
with_answer r line n i told = map_err reason.Line (reply_read told) >>= λ reply.
    Ok (with_event
    (record r { issued = slice_set r.issued n (record i { reply = Some reply }) }) line
    (Answer n reply))

-- the reply goes with the operation, which is not answered yet
abbrev pub add_answer :
    TraceReading → ℕ → ℕ → Issued → Option ℕ → Result TraceReading TraceReason
add_answer r line n i told =
    unless_refused (option_map reason.Line (unwanted_reply (code_of i.operation.op) told))
    (if is_some i.reply then Err reason.AnsweredTwice else with_answer r line n i told)

-- something that a processor has of each operation that it issued, or how many it issued
abbrev pub if_issued : {X : Type 0} → TraceReading → ℕ → Option X → Result X TraceReason
if_issued r p found = ok_or found (reason.NotIssued (length (numbers_of r.numbers p)))

-- an answer of a processor, which has issued an operation of this index
abbrev pub answer_of_index : TraceReading → ℕ → ℕ → ℕ → Option ℕ → Result TraceReading TraceReason
answer_of_index r line p index told =
    if_issued r p (slice_get (numbers_of r.numbers p) index) >>= λ n.
    if_issued r p (slice_get r.issued n) >>= λ i. add_answer r line n i told

-- what a line that gives this makes of what the lines before it gave
abbrev pub with_given : TraceReading → ℕ → TraceLine → Result TraceReading TraceReason
with_given r line Nothing = Ok r
with_given r line (given.Issue p o) = add_issue r line p o
with_given r line (given.Answer p index told) = answer_of_index r line p index told

-- what the words of a line make of it: the head is another one, and there may be one event more.
-- The memory has at most 2^32 words, and an opening word is late once an operation is issued
abbrev pub after_line_words : TraceReading → ℕ → List (List ℕ) → Result TraceReading TraceReason
after_line_words r line words =
    line_given (2 ^ 32) (not (length r.issued == 0)) r.head words >>= λ read.
    with_given (record r { head = read.0 }) line read.1

-- the trace of a text that ends here
abbrev pub trace_with : TraceReading → Result TraceSpec TraceReason
trace_with r = unless_refused (option_map reason.Line (head_missing r.head)) (Ok (record {
  words = r.head.words;
  inits = r.head.inits;
  issued = r.issued;
  events = r.events;
  lines = r.lines;
}))

-- the trace of these lines, of which the first has this number, after what was read; or where and
-- why the first bad line is refused. What is missing shows at the line after the last
abbrev pub trace_from :
    TraceReading → ℕ → List (List ℕ) → Result TraceSpec (Refusal TraceReason)
trace_from r number [] = then_lines number (trace_with r) Ok
trace_from r number (line ∷ lines) =
    then_lines number (after_line_words r number (words_of line))
    (λ next. trace_from next (number + 1) lines)

-- the trace of a text, given as the list of its lines, or where and why it is refused
abbrev pub trace_or_why : List (List ℕ) → Result TraceSpec (Refusal TraceReason)
trace_or_why lines = trace_from no_trace_read 1 lines

-- the trace of a text, or its first fault and the line of that
abbrev pub trace_of : List (List ℕ) → Result TraceSpec LineFault
trace_of lines = by_fault trace_fault_of (trace_or_why lines)
