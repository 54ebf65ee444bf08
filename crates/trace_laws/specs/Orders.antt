-- Linearizability of a trace.
use Rattle.std.specs.Prelude.{◌≡◌, ◌<◌, ℕ, List, Some, slice_get, map, take}
use Rattle.packet.specs.declared.kinds.Operation.{Operation}
use Rattle.packet.specs.declared.kinds.Reply.{Reply}
use Rattle.packet.specs.Memory.{memory_after, reply_of_one}
use Rattle.trace_laws.specs.declared.event.Call.{Call}
use Rattle.trace_laws.specs.declared.event.Event.{Event}
use Rattle.trace_laws.specs.Traces.{TraceIssuesAt, TraceAnswersAt}

-- what the operations of an order ask, in the order
abbrev pub operations_of : List Call → List Operation
operations_of order = map (λ c. c.operation) order

-- the memory that an order's operations leave, one after the other (Herlihy and Wing, TOPLAS 12(3),
-- 1990: a sequential history)
abbrev pub memory_of : List ℕ → List Call → List ℕ
memory_of opening order = memory_after (operations_of order) opening

-- the operation of this number is in the order
abbrev pub IsOn : List Call → ℕ → Type 0
IsOn order id = (x : ℕ) × (c : Call) × (slice_get order x ≡ Some c) × (c.id ≡ id)

-- An order explains a trace (Herlihy and Wing: a linearization): each operation stands in it at
-- most once, and is issued in the trace; every answered operation is in it; one that is answered
-- before another is issued stands before it; and each answer tells the reply of the one sequential
-- memory at its operation's place.
pub record IsOrder (opening : List ℕ) (trace : List Event) (order : List Call) : Type 0 where
  pub once : (x y : ℕ) (c d : Call) → slice_get order x ≡ Some c → slice_get order y ≡ Some d
      → c.id ≡ d.id → x ≡ y
  pub issued : (x : ℕ) (c : Call) → slice_get order x ≡ Some c → (i : ℕ) × TraceIssuesAt trace i c
  pub answered : (i id : ℕ) (reply : Reply) → TraceAnswersAt trace i id reply → IsOn order id
  pub real_time : (i j x y : ℕ) (c d : Call) (reply : Reply) → i < j
      → TraceAnswersAt trace i c.id reply → TraceIssuesAt trace j d
      → slice_get order x ≡ Some c → slice_get order y ≡ Some d → x < y
  pub replies : (i x : ℕ) (c : Call) (reply : Reply) → slice_get order x ≡ Some c
      → TraceAnswersAt trace i c.id reply
      → reply ≡ reply_of_one c.operation (memory_of opening (take x order))

-- a trace is linearizable: some order explains it (Herlihy and Wing)
abbrev pub IsLinearizable : List ℕ → List Event → Type 0
IsLinearizable opening trace = (order : List Call) × IsOrder opening trace order
