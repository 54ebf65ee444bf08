use Rattle.std.proofs.Common.{◌≡◌, ◌≤◌, ◌<◌, ℕ, slice_get, Some}
use Rattle.command_schedule.specs.declared.answer_count.Bounds.{Bounds}
use Rattle.command_schedule.proofs.answer_count.are_within.Given as goal

-- those so far are within
abbrev pub invariant-loop-at : goal.invariant-loop-at
invariant-loop-at l = (k : ℕ) (b : Bounds) (n : ℕ) → k < l.at → slice_get l.bounds k ≡ Some b → slice_get l.counts k ≡ Some n
    → (b.least ≤ n) × (n ≤ b.most)
