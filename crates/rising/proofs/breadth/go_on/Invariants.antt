use Rattle.std.proofs.Common.{◌≡◌, ◌-◌, ◌<◌, ◌≤◌, true}
use Rattle.rising.proofs.breadth.go_on.Given as goal

-- the node leads on in the column, if it is one
abbrev pub invariant-edges : goal.invariant-edges
invariant-edges g l = record {
  low : l.column ≤ (g.G.Graph.digraph l.graph).columns;
  leads : l.column < (g.G.Graph.digraph l.graph).columns → (g.G.Graph.digraph l.graph).leads l.from.node l.column ≡ true;
}

abbrev pub decreases-edges : goal.decreases-edges
decreases-edges g l = (g.G.Graph.digraph l.graph).columns - l.column
