use Rattle.std.proofs.Common.{◌+◌, ◌*◌}
use Rattle.network_adaptive.proofs.Ways.{NoneNamed}
use Rattle.network_adaptive.proofs.between.waits_at.Given as goal

-- no choice so far is the channel
abbrev pub invariant-loop-k : goal.invariant-loop-k
invariant-loop-k l = NoneNamed l.choices (l.base + l.x * l.ways) l.k l.y
