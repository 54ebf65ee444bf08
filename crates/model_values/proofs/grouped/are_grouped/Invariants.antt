use Rattle.std.proofs.Common.{ℕ, ◌<◌, ◌≤◌}
use Rattle.memory_models.specs.Trace.{operation_at}
use Rattle.model_values.proofs.grouped.are_grouped.Given as goal

-- those so far do, and are
abbrev pub invariant-loop-y : goal.invariant-loop-y
invariant-loop-y l = record {
  processors : (x y : ℕ) → x ≤ y → y < l.y → (operation_at l.valued.operations.now x).processor ≤ (operation_at l.valued.operations.now y).processor;
  word : (x : ℕ) → x < l.y → (operation_at l.valued.operations.now x).word < l.valued.words;
}
