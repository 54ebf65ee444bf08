use Rattle.std.proofs.Common.{◌≡◌, ℕ, ◌<◌, None, length}
use Rattle.std.specs.Prelude.{slice_index_or}
use Rattle.network_rounds.proofs.arbiter.clear_firsts.Given as goal

-- none of the outputs so far has one
abbrev pub invariant-loop-y : goal.invariant-loop-y
invariant-loop-y l = record {
  size : length l.firsts ≡ length l.initial.firsts;
  none : (z : ℕ) → z < l.y → slice_index_or l.firsts z None ≡ None;
}
