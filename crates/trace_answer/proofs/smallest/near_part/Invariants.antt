use Rattle.std.proofs.Common.{◌≤◌}
use Rattle.trace_answer.proofs.smallest.near_part.Given as goal

abbrev pub invariant-loop : goal.invariant-loop
invariant-loop g l = l.left ≤ l.fn.left
