-- A trace whose addresses have other numbers.
use Rattle.std.specs.Prelude.{◌≡◌, ◌<◌, ℕ, List, length, map, slice_index}
use Rattle.trace_laws.specs.declared.event.Call.{Call}
use Rattle.trace_laws.specs.declared.event.Event.{Event}
use Rattle.trace_laws.specs.declared.event.Event.TheVariants.{Issue, Answer}
use Rattle.trace_laws.specs.Traces.{TraceIssuesAt}
use Rattle.trace_text.specs.Traced.{TraceSpec, opening_of}

-- an operation on the word of another number
abbrev pub moved_call : (ℕ → ℕ) → Call → Call
moved_call place c = record {
  id = c.id;
  operation = record { address = place c.operation.address; op = c.operation.op };
}

-- an event of which the operation is on the word of another number
abbrev pub moved_event : (ℕ → ℕ) → Event → Event
moved_event place (Issue c) = Issue (moved_call place c)
moved_event place (Answer id reply) = Answer id reply

-- the addresses of a trace's operations have places of their own in another memory, where the same
-- words stand
pub record IsRenumbering (place back : ℕ → ℕ) (opening others : List ℕ) (trace : List Event) : Type
    0 where
  pub inside : (i : ℕ) (c : Call) → TraceIssuesAt trace i c → c.operation.address < length opening
  pub placed : (i : ℕ) (c : Call) → TraceIssuesAt trace i c → place c.operation.address < length others
  pub word : (i : ℕ) (c : Call) → TraceIssuesAt trace i c
      → slice_index others (place c.operation.address) ≡ slice_index opening c.operation.address
  pub inverse : (i : ℕ) (c : Call) → TraceIssuesAt trace i c
      → back (place c.operation.address) ≡ c.operation.address

-- these words and events are a trace with other numbers of its words
pub record IsRenumbered (t : TraceSpec) (opening : List ℕ) (events : List Event) : Type 0 where
  pub place : ℕ → ℕ
  pub back : ℕ → ℕ
  pub words : IsRenumbering place back (opening_of t) opening t.events
  pub is : events ≡ map (moved_event place) t.events
