use Rattle.std.proofs.Common.{◌+◌, ◌<◌, ℕ}
use Rattle.rising.specs.Search.{path_look, StepsOn}
use Rattle.rising.proofs.breadth.is_circuit.Given as goal

-- those so far lead on
abbrev pub invariant-loop-k : goal.invariant-loop-k
invariant-loop-k g l = (m : ℕ) → m < l.k → StepsOn (g.G.Graph.digraph l.graph) (path_look l.looks m) (path_look l.looks (m + 1)).node
