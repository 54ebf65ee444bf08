use Rattle.std.proofs.Common.{List, length}
use Rattle.trace_laws.specs.declared.event.Event.{Event}
use Rattle.trace_answer.specs.Noted.{HoldsFound}
use Rattle.trace_answer.proofs.closed.unanswered_found.Given as goal

abbrev pub invariant-loop-k : goal.invariant-loop-k
invariant-loop-k g l = (events : List Event) → HoldsFound l.issued events l.kept l.k (length events) l.found
