use Rattle.std.proofs.Common.{◌≡◌, ◌-◌, ◌<◌, ◌≤◌, length}
use Rattle.rising.specs.Graph.{edge_at}
use Rattle.network_adaptive.specs.Flags.{HasPut}
use Rattle.network_adaptive.proofs.Turned.{IsTurnedSo}
use Rattle.network_adaptive.proofs.edges.push_turned.Given as goal

-- the edges so far are added, and the next one is an edge from the node
abbrev pub invariant-edges : goal.invariant-edges
invariant-edges g l = record {
  put : HasPut (IsTurnedSo l.chains.nodes l.chains.edges.now l.x l.k) l.initial.out.items l.out.items;
  low : l.k ≤ length l.chains.edges.now;
  from : l.k < length l.chains.edges.now → (edge_at l.chains.edges.now l.k).from ≡ l.x;
}

abbrev pub decreases-edges : goal.decreases-edges
decreases-edges g l = length l.chains.edges.now - l.k
