-- Operations of a trace, with the events that issue them.
use Rattle.std.specs.Prelude.{◌≡◌, ◌<◌, ℕ, List, Some, Contains, slice_get}
use Rattle.packet.specs.declared.kinds.Reply.{Reply}
use Rattle.trace_laws.specs.declared.event.Event.{Event}
use Rattle.trace_laws.specs.Traces.{TraceIssuesAt, TraceAnswersAt, IsUnanswered}
use Rattle.trace_why.specs.declared.calls.CallAt.{CallAt}

-- an operation is open on word w before event k: it was issued and not answered (Herlihy and Wing,
-- TOPLAS 12(3), 1990: pending)
pub record IsOpenOnWord (trace : List Event) (k w : ℕ) (c : CallAt) : Type 0 where
  pub early : c.event < k
  pub issue : TraceIssuesAt trace c.event c.call
  pub here : c.call.operation.address ≡ w
  pub unanswered : IsUnanswered trace k c.call.id

-- these are all that are open on word w before event k, in the order of issue
pub record AreOpenOn (trace : List Event) (k w : ℕ) (pending : List CallAt) : Type 0 where
  pub inside : (c : CallAt) → Contains pending c → IsOpenOnWord trace k w c
  pub all : (c : CallAt) → IsOpenOnWord trace k w c → Contains pending c
  pub rising : (x y : ℕ) (c d : CallAt) → x < y → slice_get pending x ≡ Some c
      → slice_get pending y ≡ Some d → c.event < d.event

-- event k answers an operation on word w so
pub record IsAnsweredOn (trace : List Event) (k w : ℕ) (c : CallAt) (reply : Reply) : Type 0 where
  pub answer : TraceAnswersAt trace k c.call.id reply
  pub issue : TraceIssuesAt trace c.event c.call
  pub early : c.event < k
  pub here : c.call.operation.address ≡ w

-- an operation on word w was answered before event n
abbrev pub IsOver : List Event → ℕ → ℕ → CallAt → Type 0
IsOver trace n w c = (i : ℕ) × (reply : Reply) × (i < n) × IsAnsweredOn trace i w c reply

-- event k answers an operation
abbrev pub IsAnsweredAtEvent : List Event → ℕ → CallAt → Type 0
IsAnsweredAtEvent trace k c =
    (reply : Reply) × IsAnsweredOn trace k c.call.operation.address c reply
