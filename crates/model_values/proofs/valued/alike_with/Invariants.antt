use Rattle.std.proofs.Common.{ℕ, ◌<◌}
use Rattle.model_values.specs.Values.{AreAlikeValues}
use Rattle.model_values.proofs.valued.alike_with.Given as goal

-- none of the writes so far
abbrev pub invariant-loop-y : goal.invariant-loop-y
invariant-loop-y l = record {
  none : (y : ℕ) → y < l.y → AreAlikeValues l.operations l.left l.x y → ⊥;
}
