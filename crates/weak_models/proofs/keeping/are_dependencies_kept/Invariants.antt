use Rattle.std.proofs.Common.{ℕ, ◌<◌, length}
use Rattle.weak_models.specs.Notes.{dependency_at}
use Rattle.weak_models.specs.Bounds.{IsDependencyKept}
use Rattle.weak_models.proofs.keeping.are_dependencies_kept.Given as goal

-- the dependencies so far are kept
abbrev pub invariant-loop-k : goal.invariant-loop-k
invariant-loop-k l = record {
  each : (k : ℕ) → k < l.k → (dependency_at l.dependencies k).on < length l.operations → (dependency_at l.dependencies k).operation < length l.operations
      → IsDependencyKept l.operations l.turns l.bounds (dependency_at l.dependencies k);
}
