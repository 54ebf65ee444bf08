use Rattle.network_adaptive.proofs.Listed.{AreListedSo}
use Rattle.network_adaptive.proofs.spread.list_of.Given as goal

-- the flags so far are listed
abbrev pub invariant-loop-x : goal.invariant-loop-x
invariant-loop-x g l = AreListedSo l.flags l.list.items l.x
