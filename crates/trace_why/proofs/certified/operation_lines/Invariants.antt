use Rattle.trace_why.specs.Certified.{IsOperationLine}
use Rattle.trace_why.proofs.Telling.{Telling}
use Rattle.trace_why.proofs.certified.operation_lines.Given as goal

abbrev pub invariant-loop-event : goal.invariant-loop-event
invariant-loop-event g l = Telling (IsOperationLine l.trace l.to) l.events l.event-index l.found.items
