use Rattle.std.proofs.Common.{◌≡◌, ℕ, ◌<◌, false}
use Rattle.network_judge.specs.Marks.{is_marked_at}
use Rattle.dead_sets.proofs.greatest.first_up.Given as goal

-- no flag so far is up
abbrev pub invariant-loop-x : goal.invariant-loop-x
invariant-loop-x l = (y : ℕ) → y < l.x → is_marked_at l.flags y ≡ false
