use Rattle.std.proofs.Common.{ℕ, ◌<◌}
use Rattle.model_values.specs.Choices.{IsAbove, MayRead}
use Rattle.model_values.proofs.choices.next_source.Given as goal

-- none of the numbers so far
abbrev pub invariant-loop-s : goal.invariant-loop-s
invariant-loop-s l = record {
  none : (t : ℕ) → t < l.s → IsAbove l.last t → MayRead l.valued l.x t → ⊥;
}
