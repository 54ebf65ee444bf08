use Rattle.network_adaptive.proofs.Ways.{NoStepSo}
use Rattle.network_adaptive.proofs.between.step_toward.Given as goal

-- no choice so far leads there
abbrev pub invariant-loop-k : goal.invariant-loop-k
invariant-loop-k g l = NoStepSo l.kinds l.choices l.base l.ways l.shut l.x l.k l.y
