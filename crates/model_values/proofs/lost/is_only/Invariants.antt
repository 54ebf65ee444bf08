use Rattle.std.proofs.Common.{◌≡◌, ℕ, ◌<◌}
use Rattle.model_values.specs.Values.{IsLeftBy}
use Rattle.model_values.proofs.lost.is_only.Given as goal

-- none of the other writes so far
abbrev pub invariant-loop-s : goal.invariant-loop-s
invariant-loop-s l = record {
  only : (s : ℕ) → s < l.s → IsLeftBy l.valued.operations.now l.valued.left.now l.valued.found.now l.x s → s ≡ l.source;
}
