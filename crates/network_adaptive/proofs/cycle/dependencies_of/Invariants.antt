use Rattle.std.proofs.Common.{◌≡◌, ℕ, ◌<◌, length}
use Rattle.rising.specs.Search.{path_look}
use Rattle.network_adaptive.specs.Between.{IsDependencyOf, dependency_at}
use Rattle.network_adaptive.proofs.cycle.dependencies_of.Given as goal

-- the dependencies so far
abbrev pub invariant-loop-k : goal.invariant-loop-k
invariant-loop-k g l = record {
  size : length l.edges.items ≡ l.k;
  each : (i : ℕ) → i < l.k → IsDependencyOf l.kinds l.joins l.replies l.choices l.ways l.marks l.none l.waits (path_look l.looks i) (dependency_at l.edges.items i);
}
