use Rattle.rising.specs.Graph.{digraph_of}
use Rattle.rising.proofs.Chained.{AreChainsFrom}
use Rattle.rising.proofs.chains.chains_of.Given as goal

-- the edges so far are chained
abbrev pub invariant-back : goal.invariant-back
invariant-back g l = record {
  chained : AreChainsFrom (digraph_of l.nodes l.edges) l.left l.heads.items l.nexts.items;
}

abbrev pub decreases-back : goal.decreases-back
decreases-back g l = l.left
