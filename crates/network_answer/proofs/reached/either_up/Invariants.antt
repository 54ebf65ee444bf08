use Rattle.std.proofs.Common.{◌≡◌, ◌||◌, ℕ, ◌<◌, length}
use Rattle.network_judge.specs.Marks.{is_marked_at}
use Rattle.network_answer.proofs.reached.either_up.Given as goal

-- the channels so far
abbrev pub invariant-loop-x : goal.invariant-loop-x
invariant-loop-x g l = record {
  size : length l.all.items ≡ l.x;
  each : (i : ℕ) → i < l.x → is_marked_at l.all.items i ≡ (is_marked_at l.flags i || is_marked_at l.more i);
}
