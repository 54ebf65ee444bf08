-- Orders of what was issued by some event.
use Rattle.std.specs.Prelude.{◌≡◌, ◌<◌, ℕ, List, Some, slice_get, take}
use Rattle.packet.specs.declared.kinds.Reply.{Reply}
use Rattle.packet.specs.Memory.{reply_of_one}
use Rattle.trace_laws.specs.declared.event.Call.{Call}
use Rattle.trace_laws.specs.declared.event.Event.{Event}
use Rattle.trace_laws.specs.Traces.{TraceIssuesAt, TraceAnswersAt}
use Rattle.trace_laws.specs.Orders.{IsOn, memory_of}

-- An order of operations that were issued before event k, among them all that were answered before
-- it, with the replies that the whole trace tells (Herlihy and Wing, TOPLAS 12(3), 1990: a
-- linearization, of a beginning).
pub record Legal (opening : List ℕ) (trace : List Event) (k : ℕ) (order : List Call) : Type 0 where
  pub once : (x y : ℕ) (c d : Call) → slice_get order x ≡ Some c → slice_get order y ≡ Some d
      → c.id ≡ d.id → x ≡ y
  pub issued : (x : ℕ) (c : Call) → slice_get order x ≡ Some c
      → (i : ℕ) × (i < k) × TraceIssuesAt trace i c
  pub answered : (i id : ℕ) (reply : Reply) → i < k → TraceAnswersAt trace i id reply → IsOn order id
  pub real_time : (i j x y : ℕ) (c d : Call) (reply : Reply) → i < j
      → TraceAnswersAt trace i c.id reply → TraceIssuesAt trace j d
      → slice_get order x ≡ Some c → slice_get order y ≡ Some d → x < y
  pub replies : (i x : ℕ) (c : Call) (reply : Reply) → slice_get order x ≡ Some c
      → TraceAnswersAt trace i c.id reply
      → reply ≡ reply_of_one c.operation (memory_of opening (take x order))
