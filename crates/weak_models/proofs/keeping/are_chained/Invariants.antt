use Rattle.std.proofs.Common.{ℕ, ◌<◌}
use Rattle.weak_models.specs.Bounds.{IsChainedAt}
use Rattle.weak_models.proofs.keeping.are_chained.Given as goal

-- bounds go on from the operations so far
abbrev pub invariant-loop-y : goal.invariant-loop-y
invariant-loop-y l = record {
  each : (y : ℕ) → y < l.y → IsChainedAt l.notes l.operations l.turns l.bounds y;
}
