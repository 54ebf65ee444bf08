use Rattle.std.proofs.Common.{◌+◌, ◌*◌}
use Rattle.network_adaptive.proofs.Ways.{NoneNamed}
use Rattle.dead_sets.proofs.filling.steps_to.Given as goal

-- no choice so far is the channel
abbrev pub invariant-loop-k : goal.invariant-loop-k
invariant-loop-k l = NoneNamed l.choices (l.base + l.x * l.ways) l.k l.y
