use Rattle.std.proofs.Common.{◌≡◌, take}
use Rattle.trace_judge.specs.Kept.{marked_nodes}
use Rattle.trace_judge.proofs.nodes.marked.Given as goal

abbrev pub invariant-loop-i : goal.invariant-loop-i
invariant-loop-i g l = l.kept.items ≡ marked_nodes l.marks (take l.i l.marks) (take l.i l.nodes)
