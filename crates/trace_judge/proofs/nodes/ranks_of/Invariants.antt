use Rattle.trace_judge.proofs.Ranks.{Ranking}
use Rattle.trace_judge.proofs.nodes.ranks_of.Given as goal

abbrev pub invariant-loop-i : goal.invariant-loop-i
invariant-loop-i g l = Ranking l.marks l.i l.ranks.items l.count
