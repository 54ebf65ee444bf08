use Rattle.std.proofs.Common.{◌+◌, ◌*◌}
use Rattle.network_adaptive.specs.Flags.{HasPut}
use Rattle.network_adaptive.proofs.Awaited.{IsInRowSo}
use Rattle.network_adaptive.proofs.waits.row_from.Given as goal

-- the choices so far
abbrev pub invariant-loop-k : goal.invariant-loop-k
invariant-loop-k g l = HasPut (IsInRowSo l.count l.choices (l.base + l.x * l.ways) l.marks l.from l.k) l.initial.edges.items l.edges.items
