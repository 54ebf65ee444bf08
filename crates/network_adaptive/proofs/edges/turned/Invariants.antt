use Rattle.std.proofs.Common.{[]}
use Rattle.network_adaptive.specs.Flags.{HasPut}
use Rattle.network_adaptive.proofs.Turned.{IsFromBelow}
use Rattle.network_adaptive.proofs.edges.turned.Given as goal

-- the edges from the nodes so far are added
abbrev pub invariant-loop-x : goal.invariant-loop-x
invariant-loop-x g l = HasPut (IsFromBelow l.edges l.x) [] l.out.items
