use Rattle.std.proofs.Common.{◌≡◌, ℕ, ◌<◌, ◌≤◌, Some, None, slice_get}
use Rattle.trace_judge.proofs.slots.free_slot.Given as goal

abbrev pub invariant-loop-slot : goal.invariant-loop-slot
invariant-loop-slot l = (s : ℕ) → l.fn.first ≤ s → s < l.slot → slice_get l.table s ≡ Some None → ⊥
