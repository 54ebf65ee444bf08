use Rattle.trace_judge.proofs.Ranks.{Ending}
use Rattle.trace_judge.proofs.nodes.mark_ends.Given as goal

abbrev pub invariant-loop-n : goal.invariant-loop-n
invariant-loop-n l = Ending l.branches l.initial.marks l.n l.marks
