use Rattle.trace_why.specs.Told.{IsLineOf}
use Rattle.trace_why.proofs.Telling.{Telling}
use Rattle.trace_why.proofs.sentence.lines_of.Given as goal

abbrev pub invariant-loop-call : goal.invariant-loop-call
invariant-loop-call g l = Telling (IsLineOf l.trace) l.calls l.call-index l.found.items
