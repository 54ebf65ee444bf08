use Rattle.dead_sets.proofs.Zeros.{AreZerosSo}
use Rattle.dead_sets.proofs.peeling.zeros_of.Given as goal

-- the places so far
abbrev pub invariant-loop-x : goal.invariant-loop-x
invariant-loop-x g l = AreZerosSo l.left l.x l.order.items
