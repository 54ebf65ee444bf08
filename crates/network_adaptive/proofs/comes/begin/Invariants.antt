use Rattle.network_adaptive.proofs.Begins.{HasBegunSo}
use Rattle.network_adaptive.proofs.comes.begin.Given as goal

-- the pairs so far are looked at
abbrev pub invariant-loop-p : goal.invariant-loop-p
invariant-loop-p l = HasBegunSo l.joins l.to l.p l.initial.seen l.seen
