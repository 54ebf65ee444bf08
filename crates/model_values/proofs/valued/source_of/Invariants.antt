use Rattle.std.proofs.Common.{ℕ, ◌<◌}
use Rattle.model_values.specs.Values.{IsLeftBy}
use Rattle.model_values.proofs.valued.source_of.Given as goal

-- none of the writes so far
abbrev pub invariant-loop-s : goal.invariant-loop-s
invariant-loop-s l = record {
  none : (s : ℕ) → s < l.s → IsLeftBy l.valued.operations.now l.valued.left.now l.valued.found.now l.x s → ⊥;
}
