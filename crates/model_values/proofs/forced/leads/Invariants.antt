use Rattle.std.proofs.Common.{ℕ, ◌+◌, ◌≤◌}
use Rattle.rising.specs.Graph.{RisesOnEdges}
use Rattle.model_values.proofs.forced.leads.Given as goal

-- each pair so far leads on by one at least
abbrev pub invariant-loop-k : goal.invariant-loop-k
invariant-loop-k l = record {
  rises : (number : ℕ → ℕ) → RisesOnEdges l.edges number → number l.from + l.k ≤ number l.at;
}
