use Rattle.std.proofs.Common.{ℕ, ◌<◌}
use Rattle.network_adaptive.specs.Between.{MayWaitTo}
use Rattle.network_adaptive.proofs.cycle.how_it_waits.Given as goal

-- packets to no channel so far wait
abbrev pub invariant-loop-to : goal.invariant-loop-to
invariant-loop-to g l = (j : ℕ) → j < l.to → MayWaitTo l.kinds l.joins l.choices l.ways l.marks l.none j l.x l.y → ⊥
