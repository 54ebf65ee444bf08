use Rattle.network_adaptive.proofs.Farthest.{IsOrderSo}
use Rattle.network_adaptive.proofs.longest.order_of.Given as goal

-- the nodes so far stand at their numbers
abbrev pub invariant-loop-x : goal.invariant-loop-x
invariant-loop-x g l = IsOrderSo l.numbers l.order.items l.x
