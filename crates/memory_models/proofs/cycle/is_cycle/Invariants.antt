use Rattle.std.proofs.Common.{◌≡◌, ◌+◌, ℕ, ◌<◌, ◌≤◌}
use Rattle.memory_models.specs.Arcs.{IsArc}
use Rattle.memory_models.specs.Verdict.{step_at}
use Rattle.memory_models.proofs.cycle.is_cycle.Given as goal

-- the steps so far have reasons
abbrev pub invariant-loop-k : goal.invariant-loop-k
invariant-loop-k l = record {
  each : (k : ℕ) → k < l.k → IsArc l.rules l.operations l.writes (step_at l.steps k).from (step_at l.steps k).to;
}

-- and each leads to the next
abbrev pub invariant-loop-k-2 : goal.invariant-loop-k-2
invariant-loop-k-2 l = record {
  low : 1 ≤ l.k;
  joined : (k : ℕ) → k + 1 < l.k → (step_at l.steps k).to ≡ (step_at l.steps (k + 1)).from;
}
