use Rattle.std.proofs.Common.{◌≡◌, ◌||◌, ℕ, ◌<◌, length}
use Rattle.std.specs.Prelude.{slice_get}
use Rattle.network_judge.specs.Table.{is_sender, is_receiver}
use Rattle.network_judge.specs.Marks.{is_marked_at}
use Rattle.network_adaptive.proofs.accepting.marks_of.Given as goal

-- the channels so far
abbrev pub invariant-loop-x : goal.invariant-loop-x
invariant-loop-x g l = record {
  size : length l.marks.items ≡ l.x;
  each : (i : ℕ) → i < l.x → is_marked_at l.marks.items i
      ≡ (is_marked_at l.escapes i || (is_sender (slice_get l.kinds i) || is_receiver (slice_get l.kinds i)));
}
