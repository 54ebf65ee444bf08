use Rattle.network_adaptive.specs.Flags.{HasPut}
use Rattle.network_adaptive.proofs.Awaited.{IsAwaitedSo}
use Rattle.network_adaptive.proofs.waits.row_of.Given as goal

-- behind the channels so far
abbrev pub invariant-loop-k : goal.invariant-loop-k
invariant-loop-k g l = HasPut (IsAwaitedSo l.kinds l.choices l.base l.ways l.marks l.held l.from l.k) l.initial.edges.items l.edges.items
