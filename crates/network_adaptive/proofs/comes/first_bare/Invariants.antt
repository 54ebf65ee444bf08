use Rattle.network_adaptive.proofs.Bare.{NoBareSo}
use Rattle.network_adaptive.proofs.comes.first_bare.Given as goal

-- no channel so far is bare
abbrev pub invariant-loop-x : goal.invariant-loop-x
invariant-loop-x l = NoBareSo l.kinds l.choices l.base l.ways l.marks l.seen l.x
