use Rattle.network_adaptive.proofs.Ways.{NoneAmong}
use Rattle.network_adaptive.proofs.between.is_among.Given as goal

-- none so far
abbrev pub invariant-loop-x : goal.invariant-loop-x
invariant-loop-x l = NoneAmong l.kinds l.choices l.base l.ways l.flags l.x l.y
