use Rattle.trace_judge.proofs.Growth.{Settling}
use Rattle.trace_judge.proofs.closing.settle_all.Given as goal

abbrev pub invariant-loop-i : goal.invariant-loop-i
invariant-loop-i g l = Settling l.table l.address l.branches l.initial.nodes.items l.i l.found.items l.nodes.items
