-- A trace as the path of a transition system: events happen, and between them open operations take
-- effect.
use Rattle.std.specs.Prelude.{◌≡◌, ◌⊎◌, ◌<◌, ℕ, suc, List, [], ◌∷◌, ◌++◌, Some, length, take, slice_get}
use Rattle.packet.specs.declared.kinds.Reply.{Reply}
use Rattle.packet.specs.Memory.{reply_of_one}
use Rattle.trace_laws.specs.declared.event.Call.{Call}
use Rattle.trace_laws.specs.declared.event.Event.{Event}
use Rattle.trace_laws.specs.Traces.{TraceIssuesAt, TraceAnswersAt, IsUnanswered}
use Rattle.trace_laws.specs.Orders.{IsOn, memory_of}

-- a move: the next event of the trace happens, or an operation takes effect (Herlihy and Wing,
-- TOPLAS 12(3), 1990: instantaneously, between its invocation and its response)
pub data Moment : Type 0 where
  Happens : Moment
  Takes : (call : Call) → Moment

-- the operation of this number has taken effect, with this reply
abbrev pub Replied : List ℕ → List Call → ℕ → Reply → Type 0
Replied opening order id reply = (x : ℕ) × (c : Call) × (slice_get order x ≡ Some c) × (c.id ≡ id)
    × (reply ≡ reply_of_one c.operation (memory_of opening (take x order)))

-- an operation may be issued at any time, and answered once it has taken effect, with its reply
abbrev pub MomentMayHappen : List ℕ → List Event → ℕ → List Call → Type 0
MomentMayHappen opening trace k order = ((call : Call) × TraceIssuesAt trace k call)
    ⊎ ((id : ℕ) × (reply : Reply) × TraceAnswersAt trace k id reply × Replied opening order id reply)

-- an operation may take effect once, between its issue and its answer (Herlihy and Wing)
pub record MayTakeEffect (trace : List Event) (k : ℕ) (order : List Call) (call : Call) : Type 0
  where
    pub at : ℕ
    pub early : at < k
    pub issue : TraceIssuesAt trace at call
    pub unanswered : IsUnanswered trace k call.id
    pub new : IsOn order call.id → ⊥

-- from before event k, with these operations having taken effect in this order, moves lead to the
-- end of the trace with the last order
abbrev pub IsPath : List ℕ → List Event → List Moment → ℕ → List Call → List Call → Type 0
IsPath opening trace [] k order last = (k ≡ length trace) × (order ≡ last)
IsPath opening trace (Happens ∷ moves) k order last =
    MomentMayHappen opening trace k order × IsPath opening trace moves (suc k) order last
IsPath opening trace (Takes call ∷ moves) k order last =
    MayTakeEffect trace k order call × IsPath opening trace moves k (order ++ call ∷ []) last

-- moves lead through the whole trace, with effects in this order
abbrev pub HasPath : List ℕ → List Event → List Call → Type 0
HasPath opening trace order = (moves : List Moment) × IsPath opening trace moves 0 [] order
