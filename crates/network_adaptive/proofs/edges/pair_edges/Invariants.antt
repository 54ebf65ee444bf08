use Rattle.std.proofs.Common.{◌≡◌, ◌++◌, drop, map}
use Rattle.network_adaptive.specs.Edges.{pair_edge}
use Rattle.network_adaptive.proofs.edges.pair_edges.Given as goal

-- the edges so far, and those of the pairs to come, are all
abbrev pub invariant-loop-join : goal.invariant-loop-join
invariant-loop-join g l = l.edges.items ++ map pair_edge (drop l.join-index l.joins) ≡ map pair_edge l.joins
