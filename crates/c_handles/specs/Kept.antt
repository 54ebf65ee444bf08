-- What the records leave true of what they gave.
use Rattle.std.specs.Prelude.{◌≡◌, ℕ, true, Some, length, slice_get}
use Rattle.packet.specs.declared.kinds.Reply.{Reply}
use Rattle.trace_laws.specs.declared.event.Call.{Call}
use Rattle.trace_laws.specs.Traces.{IsTrace, TraceIssuesAt, TraceAnswersAt}
use Rattle.c_handles.specs.Gathered.{Gathered}

-- events make a trace, operations have the numbers of their issues, and what is answered is marked
pub record IsGathered (words : ℕ) (g : Gathered) : Type 0 where
  pub sized : length g.answered ≡ length g.events
  pub trace : IsTrace words g.events
  pub ids : (i : ℕ) (call : Call) → TraceIssuesAt g.events i call → call.id ≡ i
  pub marked : (i id : ℕ) (reply : Reply) → TraceAnswersAt g.events i id reply
      → slice_get g.answered id ≡ Some true
