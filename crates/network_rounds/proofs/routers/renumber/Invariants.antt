use Rattle.std.proofs.Common.{◌≡◌, ◌<◌, ◌≤◌, ℕ, length}
use Rattle.std.specs.Prelude.{slice_index}
use Rattle.network_rounds.specs.Routers.{router_renumbered}
use Rattle.network_rounds.proofs.routers.renumber.Given as goal

-- those of the channels so far are new, the others are old
abbrev pub invariant-loop-z : goal.invariant-loop-z
invariant-loop-z l = record {
  size : length l.routers ≡ length l.initial.routers;
  new : (k : ℕ) → k < l.z → slice_index l.routers k ≡ router_renumbered l.from l.to (slice_index l.initial.routers k);
  old : (k : ℕ) → l.z ≤ k → slice_index l.routers k ≡ slice_index l.initial.routers k;
}
