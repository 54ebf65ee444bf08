use Rattle.network_adaptive.specs.Shape.{PairsFit}
use Rattle.network_adaptive.proofs.accepting.first_wrong_pair.Given as goal

-- no such pair so far
abbrev pub invariant-loop-p : goal.invariant-loop-p
invariant-loop-p l = PairsFit l.kinds l.joins l.p
