use Rattle.std.proofs.Common.{◌≡◌, ℕ, ◌<◌, length}
use Rattle.std.specs.Prelude.{slice_index}
use Rattle.rising.specs.Graph.{edge_at}
use Rattle.weak_models.specs.Arcs.{IsStep, reasoned_at}
use Rattle.weak_models.proofs.judging.steps_of.Given as goal

-- the steps so far
abbrev pub invariant-loop-k : goal.invariant-loop-k
invariant-loop-k g l = record {
  size : length l.steps.items ≡ l.k;
  each : (m : ℕ) → m < l.k
      → IsStep l.notes l.dependencies l.operations l.writes (edge_at l.edges (slice_index l.cycle m)) (reasoned_at l.steps.items m);
}
