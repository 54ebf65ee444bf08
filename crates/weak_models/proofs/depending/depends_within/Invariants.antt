use Rattle.std.proofs.Common.{ℕ, ◌<◌}
use Rattle.weak_models.specs.Notes.{dependency_at, IsWithin}
use Rattle.weak_models.proofs.depending.depends_within.Given as goal

-- no dependency so far is within
abbrev pub invariant-loop-k : goal.invariant-loop-k
invariant-loop-k l = record {
  none : (k : ℕ) → k < l.k → IsWithin (dependency_at l.dependencies k) l.kind l.on l.low l.high → ⊥;
}
