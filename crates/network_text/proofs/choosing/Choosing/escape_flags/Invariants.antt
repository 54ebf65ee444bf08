use Rattle.std.proofs.Common.{◌≡◌, ℕ, ◌<◌, length}
use Rattle.network_judge.specs.Marks.{is_marked_at}
use Rattle.network_text.specs.ChoiceLists.{is_made_escape}
use Rattle.network_text.proofs.choosing.Choosing.escape_flags.Given as goal

abbrev pub invariant-loop-x : goal.invariant-loop-x
invariant-loop-x g l = record {
  size : length l.flags.items ≡ l.x;
  each : (y : ℕ) → y < l.x → is_marked_at l.flags.items y ≡ is_made_escape l.self.escapes.items y;
}
