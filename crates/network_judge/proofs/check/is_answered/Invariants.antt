use Rattle.std.proofs.Common.{◌≡◌, ℕ, ◌<◌, true}
use Rattle.network_judge.specs.Replies.{reply_at}
use Rattle.network_judge.specs.Marks.{is_marked_at}
use Rattle.network_judge.proofs.check.is_answered.Given as goal

-- none of the first replies is one on a marked channel
abbrev pub invariant-loop-place : goal.invariant-loop-place
invariant-loop-place l = (p : ℕ) → p < l.place → (reply_at l.replies p).from ≡ l.to → is_marked_at l.marks (reply_at l.replies p).to ≡ true → ⊥
