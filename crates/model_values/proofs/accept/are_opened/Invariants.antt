use Rattle.std.proofs.Common.{ℕ, ◌<◌, length}
use Rattle.memory_models.specs.Trace.{operation_at}
use Rattle.model_values.specs.Unordered.{IsOpeningOf}
use Rattle.model_values.proofs.accept.are_opened.Given as goal

-- the opening stores so far stand before the other writes of their words
abbrev pub invariant-loop-x : goal.invariant-loop-x
invariant-loop-x l = record {
  opened : (x : ℕ) → x < l.x → (y : ℕ) → y < length l.question.operations.now → IsOpeningOf l.question.openings l.question.operations.now x y
      → (operation_at l.placed x).place < (operation_at l.placed y).place;
}
