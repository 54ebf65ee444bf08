-- The trace that records of events are: what each record makes of what the records before it made
-- (this project's own format).
use Rattle.std.specs.Prelude.{ℕ, ◌+◌, ◌==◌, Bool, true, false, not, nat_lt, List, [], ◌∷◌, ◌++◌}
use Rattle.std.specs.Prelude.{length}
use Rattle.std.specs.Prelude.{slice_get, slice_set, Option, Some, None, ok_or, Result, Ok, Err}
use Rattle.std.specs.Prelude.{if◌then◌else◌}
use Rattle.std.specs.List.{slice_index_or}
use Rattle.torus.specs.declared.fault.Fault.{Fault}
use Rattle.torus.specs.declared.fault.Fault.TheVariants as fault
use Rattle.packet.specs.declared.kinds.Op.{Op}
use Rattle.packet.specs.declared.kinds.Operation.{Operation}
use Rattle.packet.specs.declared.kinds.Reply.{Reply}
use Rattle.packet.specs.declared.kinds.Reply.TheVariants.{Ok as Stored, Old}
use Rattle.packet.specs.Kinds.{code_of, is_store}
use Rattle.trace_laws.specs.declared.event.Event.{Event}
use Rattle.trace_laws.specs.declared.event.Event.TheVariants.{Issue, Answer}
use Rattle.lexer.specs.Outcome.{◌>>=◌}
use Rattle.lexer.specs.declared.fault.LineFault.{LineFault}
use Rattle.lexer.specs.Faults.{then_lines}
use Rattle.trace_text.specs.IssueNumbers.{no_numbers, numbers_of, with_number}
use Rattle.c_handles.specs.declared.record.EventRecord.{EventRecord}
use Rattle.c_handles.specs.Numbered.{op_numbered, reply_numbered}

-- what the records so far gave: for each processor the numbers of its operations, for each event
-- whether it is an issue that is answered, and the events
pub record Gathered : Type 0 where
  pub numbers : List (List ℕ)
  pub answered : List Bool
  pub events : List Event

-- nothing is given
abbrev pub nothing_gathered : Gathered
nothing_gathered = record { numbers = no_numbers; answered = []; events = [] }

-- one operation more: its number is the place of its issue among the events
abbrev pub gathered_issue : Gathered → ℕ → Operation → Gathered
gathered_issue g p o = record {
  numbers = with_number g.numbers p (length g.events);
  answered = g.answered ++ false ∷ [];
  events = g.events ++ Issue (record { id = length g.events; operation = o }) ∷ [];
}

-- an issue: the operation has a number, the processor is below 4096, and the address is below the
-- number of words
abbrev pub issue_gathered : ℕ → Gathered → EventRecord → Result Gathered Fault
issue_gathered words g e = ok_or (op_numbered e.operation e.first e.second) fault.Line >>= λ op.
    if not (nat_lt e.processor 4096) then Err fault.Processor
    else (if not (nat_lt e.address words) then Err fault.Address
    else Ok (gathered_issue g e.processor (record { address = e.address; op = op })))

-- one answer more, to the operation of a number
abbrev pub gathered_answer : Gathered → ℕ → Reply → Gathered
gathered_answer g n reply = record {
  numbers = g.numbers;
  answered = slice_set g.answered n true ++ false ∷ [];
  events = g.events ++ Answer n reply ∷ [];
}

-- `ok` goes with a store, and an old word with every other operation
abbrev pub is_reply_to : Op → Reply → Bool
is_reply_to op Stored = is_store (code_of op)
is_reply_to op (Old word) = not (is_store (code_of op))

-- whether an event issues an operation that a reply goes with
abbrev pub is_replied : Option Event → Reply → Bool
is_replied None reply = false
is_replied (Some (Issue call)) reply = is_reply_to call.operation.op reply
is_replied (Some (Answer id other)) reply = false

-- the reply goes with the operation, which is not answered yet
abbrev pub answer_added : Gathered → ℕ → Reply → Result Gathered Fault
answer_added g n reply =
    if not (is_replied (slice_get g.events n) reply) then Err fault.Line
    else (if slice_index_or g.answered n false then Err fault.Setting
    else Ok (gathered_answer g n reply))

-- an answer: it tells a reply, the processor is below 4096, and it has issued an operation of this
-- index
abbrev pub answer_gathered : Gathered → EventRecord → Result Gathered Fault
answer_gathered g e = ok_or (reply_numbered e.has_old e.old) fault.Line >>= λ reply.
    if not (nat_lt e.processor 4096) then Err fault.Processor
    else (ok_or (slice_get (numbers_of g.numbers e.processor) e.index) fault.Range >>= λ n.
    answer_added g n reply)

-- a record of an issue is of kind 0, and one of an answer of kind 1
abbrev pub after_record : ℕ → Gathered → EventRecord → Result Gathered Fault
after_record words g e =
    if e.kind == 0 then issue_gathered words g e
    else (if e.kind == 1 then answer_gathered g e else Err fault.Line)

-- the events of these records, of which the first has this place, after what was gathered; or the
-- fault of the first record that can't stand, with its place
abbrev pub events_from : ℕ → Gathered → ℕ → List EventRecord → Result (List Event) LineFault
events_from words g place [] = Ok g.events
events_from words g place (e ∷ records) =
    then_lines place (after_record words g e)
    (λ next. events_from words next (place + 1) records)

-- the trace that records are, over a memory of so many words
abbrev pub trace_of_records : ℕ → List EventRecord → Result (List Event) LineFault
trace_of_records words records = events_from words nothing_gathered 0 records
