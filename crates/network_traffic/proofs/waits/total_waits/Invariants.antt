use Rattle.std.proofs.Common.{◌≡◌, ◌+◌, ◌<◌, ◌^◌, ℕ, is_some, length, None}
use Rattle.std.specs.Prelude.{slice_index, slice_index_or}
use Rattle.network_traffic.specs.Waits.{CountWaits}
use Rattle.network_traffic.proofs.waits.total_waits.Given as goal

-- the waits of the latches so far
abbrev pub invariant-loop-x : goal.invariant-loop-x
invariant-loop-x l = record {
  size : length l.waited ≡ length l.initial.waited;
  total : (counts : ℕ → ℕ) → ((z : ℕ) → counts z < 2 ^ 64)
      → CountWaits counts (l.rounds + 1) (λ z. is_some (slice_index_or l.latches z None)) l.latches l.waits
      → (z : ℕ) → z < l.x → slice_index l.waited z ≡ counts z;
}
