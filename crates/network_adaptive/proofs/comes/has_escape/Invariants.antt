use Rattle.std.proofs.Common.{◌+◌, ◌*◌}
use Rattle.network_adaptive.proofs.Bare.{NoneSo}
use Rattle.network_adaptive.proofs.comes.has_escape.Given as goal

-- the choices so far aren't marked
abbrev pub invariant-loop-k : goal.invariant-loop-k
invariant-loop-k l = NoneSo l.count l.choices (l.base + l.x * l.ways) l.k l.marks
