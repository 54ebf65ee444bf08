use Rattle.std.proofs.Common.{◌≡◌, ℕ, ◌<◌, length}
use Rattle.std.specs.Prelude.{slice_index}
use Rattle.model_values.specs.Values.{IsKnownSource}
use Rattle.model_values.proofs.valued.sources_by_values.Given as goal

-- the sources so far
abbrev pub invariant-loop-x : goal.invariant-loop-x
invariant-loop-x g l = record {
  size : length l.sources.items ≡ l.x;
  each : (m : ℕ) → m < l.x → IsKnownSource l.valued m (slice_index l.sources.items m);
}
