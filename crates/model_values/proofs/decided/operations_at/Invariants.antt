use Rattle.std.proofs.Common.{◌≡◌, ℕ, ◌<◌, length}
use Rattle.memory_models.specs.Trace.{operation_at}
use Rattle.model_values.specs.Placed.{operation_listed}
use Rattle.model_values.proofs.decided.operations_at.Given as goal

-- the operations so far
abbrev pub invariant-loop-x : goal.invariant-loop-x
invariant-loop-x g l = record {
  size : length l.placed.items ≡ l.x;
  each : (m : ℕ) → m < l.x → operation_at l.placed.items m ≡ operation_listed l.question.operations.now l.places m;
}
