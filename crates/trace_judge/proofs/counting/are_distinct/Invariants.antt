use Rattle.trace_judge.proofs.Distinct.{Distinct}
use Rattle.trace_judge.proofs.counting.are_distinct.Given as goal

abbrev pub invariant-loop-i : goal.invariant-loop-i
invariant-loop-i g l = Distinct l.branches l.i l.seen
