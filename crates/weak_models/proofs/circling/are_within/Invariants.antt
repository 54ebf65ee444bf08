use Rattle.std.proofs.Common.{ℕ, ◌<◌}
use Rattle.rising.specs.Graph.{edge_at}
use Rattle.weak_models.proofs.circling.are_within.Given as goal

-- the edges so far lead from nodes to nodes
abbrev pub invariant-loop-k : goal.invariant-loop-k
invariant-loop-k l = record {
  from : (k : ℕ) → k < l.k → (edge_at l.edges k).from < l.nodes;
  to : (k : ℕ) → k < l.k → (edge_at l.edges k).to < l.nodes;
}
