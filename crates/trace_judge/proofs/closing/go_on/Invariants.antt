use Rattle.trace_judge.proofs.Closings.{Closing}
use Rattle.trace_judge.proofs.closing.go_on.Given as goal

abbrev pub invariant-loop-next : goal.invariant-loop-next
invariant-loop-next g l = Closing l.table l.address l.slot l.initial.found.items l.initial.nodes.items l.next l.found.items l.nodes.items
