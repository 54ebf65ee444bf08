use Rattle.std.proofs.Common.{ℕ, ◌<◌, ◌≤◌, length}
use Rattle.memory_models.specs.Trace.{operation_at}
use Rattle.model_values.specs.Unordered.{IsClosingOf}
use Rattle.model_values.proofs.accept.are_closed.Given as goal

-- the closing loads so far read the last writes of their words
abbrev pub invariant-loop-x : goal.invariant-loop-x
invariant-loop-x l = record {
  closed : (x : ℕ) → x < l.x → (y : ℕ) → y < length l.question.operations.now → IsClosingOf l.question.closing l.question.operations.now x y
      → (operation_at l.placed y).place ≤ (operation_at l.placed x).place;
}
