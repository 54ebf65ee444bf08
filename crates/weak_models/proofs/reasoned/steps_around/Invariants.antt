use Rattle.std.proofs.Common.{◌≡◌, ℕ, ◌<◌, length}
use Rattle.weak_models.specs.Arcs.{reasoned_at}
use Rattle.weak_models.specs.Around.{IsStepAround}
use Rattle.weak_models.proofs.reasoned.steps_around.Given as goal

-- the steps so far
abbrev pub invariant-loop-k : goal.invariant-loop-k
invariant-loop-k g l = record {
  size : length l.steps.items ≡ l.k;
  each : (m : ℕ) → m < l.k → IsStepAround l.notes l.dependencies l.operations l.writes l.around m (reasoned_at l.steps.items m);
}
