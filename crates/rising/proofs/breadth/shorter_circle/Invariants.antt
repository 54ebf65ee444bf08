use Rattle.std.proofs.Common.{◌<◌, ◌≤◌, length}
use Rattle.std.specs.Prelude.{IfSome}
use Rattle.rising.specs.Search.{IsCircuit}
use Rattle.rising.proofs.breadth.shorter_circle.Given as goal

-- what is found is a circle, of fewer nodes than so many
abbrev pub invariant-loop-k : goal.invariant-loop-k
invariant-loop-k g l = record {
  low : l.most ≤ l.size;
  circuit : IfSome l.best (λ looks. IsCircuit (g.G.Graph.digraph l.graph) looks.items);
  shorter : IfSome l.best (λ looks. length looks.items < l.size);
}
