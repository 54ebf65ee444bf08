use Rattle.std.proofs.Common.{◌+◌, ◌*◌}
use Rattle.network_adaptive.specs.Flags.{HasPut}
use Rattle.dead_sets.proofs.Gathered.{WaysSo}
use Rattle.dead_sets.proofs.cases.choices_to.Given as goal

-- the choices so far
abbrev pub invariant-loop-k : goal.invariant-loop-k
invariant-loop-k g l = HasPut (WaysSo l.count l.choices (l.base + l.x * l.ways) l.case l.k) l.initial.edges.items l.edges.items
