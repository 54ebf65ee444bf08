use Rattle.std.proofs.Common.{◌≡◌, length}
use Rattle.rising.proofs.breadth.guessed.Given as goal

-- a flag for each node
abbrev pub invariant-loop-place : goal.invariant-loop-place
invariant-loop-place g l = length l.seen.items ≡ (g.G.Graph.digraph l.graph).nodes
