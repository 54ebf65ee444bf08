-- What may come next in a trace.
use Rattle.std.specs.Prelude.{ℕ, List, [], ◌∷◌, ◌++◌, take}
use Rattle.packet.specs.declared.kinds.Reply.{Reply}
use Rattle.trace_laws.specs.declared.event.Event.{Event}
use Rattle.trace_laws.specs.declared.event.Event.TheVariants.{Answer}
use Rattle.trace_laws.specs.Orders.{IsLinearizable}
use Rattle.trace_text.specs.Traced.{TraceSpec}

-- the first n events of a trace, and behind them this answer
abbrev pub answered_so : List Event → ℕ → ℕ → Reply → List Event
answered_so trace n id reply = take n trace ++ Answer id reply ∷ []

-- the trace of these
abbrev pub trace_answered_so : TraceSpec → ℕ → ℕ → Reply → TraceSpec
trace_answered_so t n id reply = record t { events = answered_so t.events n id reply }

-- the operation of this number may be answered so behind the first n events: they and the answer
-- are linearizable (Herlihy and Wing, TOPLAS 12(3), 1990)
abbrev pub IsAllowed : List ℕ → List Event → ℕ → ℕ → Reply → Type 0
IsAllowed opening trace n id reply = IsLinearizable opening (answered_so trace n id reply)
