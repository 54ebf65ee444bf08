use Rattle.std.proofs.Common.{ℕ, ◌<◌}
use Rattle.model_values.specs.Values.{AreAlikeValues}
use Rattle.model_values.proofs.valued.find_alike.Given as goal

-- none of the writes so far
abbrev pub invariant-loop-x : goal.invariant-loop-x
invariant-loop-x l = record {
  none : (x : ℕ) → x < l.x → (y : ℕ) → AreAlikeValues l.operations l.left x y → ⊥;
}
