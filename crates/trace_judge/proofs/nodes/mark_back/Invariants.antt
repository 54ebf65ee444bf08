use Rattle.trace_judge.proofs.Ranks.{Closes}
use Rattle.trace_judge.proofs.nodes.mark_back.Given as goal

abbrev pub invariant-loop-i : goal.invariant-loop-i
invariant-loop-i l = Closes l.nodes l.initial.marks l.i l.marks

abbrev pub decreases-loop-i : goal.decreases-loop-i
decreases-loop-i l = l.i
