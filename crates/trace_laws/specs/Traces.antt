-- Traces: events in the order in which they happened.
use Rattle.std.specs.Prelude.{◌≡◌, ◌<◌, ◌≤◌, ℕ, List, Some, slice_get}
use Rattle.packet.specs.declared.kinds.Reply.{Reply}
use Rattle.trace_laws.specs.declared.event.Call.{Call}
use Rattle.trace_laws.specs.declared.event.Event.{Event}
use Rattle.trace_laws.specs.declared.event.Event.TheVariants.{Issue, Answer}

-- event i of a trace issues this operation: its invocation (Herlihy and Wing, TOPLAS 12(3), 1990)
abbrev pub TraceIssuesAt : List Event → ℕ → Call → Type 0
TraceIssuesAt trace i call = slice_get trace i ≡ Some (Issue call)

-- event i of a trace answers the operation of this number so: its response (Herlihy and Wing)
abbrev pub TraceAnswersAt : List Event → ℕ → ℕ → Reply → Type 0
TraceAnswersAt trace i id reply = slice_get trace i ≡ Some (Answer id reply)

-- the trace answers this number
abbrev pub IsAnswered : List Event → ℕ → Type 0
IsAnswered trace id = (i : ℕ) × (reply : Reply) × TraceAnswersAt trace i id reply

-- an operation of this number is issued before event j
abbrev pub WasIssuedBefore : List Event → ℕ → ℕ → Type 0
WasIssuedBefore trace j id = (i : ℕ) × (call : Call) × (i < j) × (call.id ≡ id) × TraceIssuesAt trace i call

-- no answer to this number before event k: it is pending there, if it was issued (Herlihy and Wing)
abbrev pub IsUnanswered : List Event → ℕ → ℕ → Type 0
IsUnanswered trace k id = (i : ℕ) (reply : Reply) → TraceAnswersAt trace i id reply → k ≤ i

-- A trace is well-formed (Herlihy and Wing: a well-formed history): operations are numbered
-- upwards, what is answered was issued before, nothing is answered twice, and all are on words of
-- the memory.
pub record IsTrace (words : ℕ) (trace : List Event) : Type 0 where
  pub rising : (i j : ℕ) (a b : Call) → i < j → TraceIssuesAt trace i a → TraceIssuesAt trace j b → a.id < b.id
  pub issued : (j id : ℕ) (reply : Reply) → TraceAnswersAt trace j id reply → WasIssuedBefore trace j id
  pub once : (i j id : ℕ) (r s : Reply) → TraceAnswersAt trace i id r → TraceAnswersAt trace j id s
      → i ≡ j
  pub inside : (i : ℕ) (call : Call) → TraceIssuesAt trace i call → call.operation.address < words
