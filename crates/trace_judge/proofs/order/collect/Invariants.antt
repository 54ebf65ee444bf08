use Rattle.std.proofs.Common.{◌≡◌, take}
use Rattle.trace_laws.specs.Searches.{order_of}
use Rattle.trace_judge.proofs.order.collect.Given as goal

abbrev pub invariant-loop-i : goal.invariant-loop-i
invariant-loop-i g l = l.order.items ≡ order_of (take l.i l.nodes) (take l.i l.marks)
