-- Linearizability of one word by itself.
use Rattle.std.specs.Prelude.{◌≡◌, ◌<◌, ℕ, List, Some, slice_get, take}
use Rattle.packet.specs.declared.kinds.Reply.{Reply}
use Rattle.packet.specs.Memory.{reply_of_one}
use Rattle.trace_laws.specs.declared.event.Call.{Call}
use Rattle.trace_laws.specs.declared.event.Event.{Event}
use Rattle.trace_laws.specs.Traces.{TraceIssuesAt, TraceAnswersAt}
use Rattle.trace_laws.specs.Orders.{IsOn, memory_of}

-- An order explains what a trace does on word w: it is one of operations on this word alone, and of
-- those all that an order of the trace has to be (Herlihy and Wing, TOPLAS 12(3), 1990: a
-- linearization of an object's subhistory).
pub record IsOrderOn (w : ℕ) (opening : List ℕ) (trace : List Event) (order : List Call) : Type 0
  where
    pub here : (x : ℕ) (c : Call) → slice_get order x ≡ Some c → c.operation.address ≡ w
    pub once : (x y : ℕ) (c d : Call) → slice_get order x ≡ Some c → slice_get order y ≡ Some d
        → c.id ≡ d.id → x ≡ y
    pub issued : (x : ℕ) (c : Call) → slice_get order x ≡ Some c → (i : ℕ) × TraceIssuesAt trace i c
    pub answered : (i j : ℕ) (c : Call) (reply : Reply) → TraceIssuesAt trace i c
        → c.operation.address ≡ w
        → TraceAnswersAt trace j c.id reply → IsOn order c.id
    pub real_time : (i j x y : ℕ) (c d : Call) (reply : Reply) → i < j
        → TraceAnswersAt trace i c.id reply → TraceIssuesAt trace j d
        → slice_get order x ≡ Some c → slice_get order y ≡ Some d → x < y
    pub replies : (i x : ℕ) (c : Call) (reply : Reply) → slice_get order x ≡ Some c
        → TraceAnswersAt trace i c.id reply
        → reply ≡ reply_of_one c.operation (memory_of opening (take x order))

-- what a trace does on word w is linearizable (Herlihy and Wing: an object's subhistory)
abbrev pub IsLinearizableOn : ℕ → List ℕ → List Event → Type 0
IsLinearizableOn w opening trace = (order : List Call) × IsOrderOn w opening trace order
