use Rattle.std.proofs.Common.{◌≡◌}
use Rattle.rising.specs.declared.search.Mark.TheVariants.{New}
use Rattle.rising.specs.Search.{node_mark, IsDepthSearch, StayFinished}
use Rattle.rising.proofs.Left.{left}
use Rattle.rising.proofs.search.visit.Given as goal

-- a step of the search, in which the first node was come to
abbrev pub invariant-steps : goal.invariant-steps
invariant-steps g l = record {
  search : IsDepthSearch (g.G.Graph.digraph l.graph) l.marks l.path.items l.finished;
  stay : StayFinished l.fn.marks l.marks;
  begun : node_mark l.marks l.start ≡ New → ⊥;
}

-- the nodes to come to, and the edges to look at on the path
abbrev pub decreases-steps : goal.decreases-steps
decreases-steps g l = left (g.G.Graph.digraph l.graph).columns l.marks l.path.items
