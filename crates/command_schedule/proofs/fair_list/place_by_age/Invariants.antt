use Rattle.std.proofs.Common.{ℕ, ◌<◌, ◌≤◌, slice_index}
use Rattle.machine_core.specs.Ordered.{age_at}
use Rattle.command_schedule.proofs.fair_list.place_by_age.Given as goal

-- those before the place are no younger
abbrev pub invariant-loop-place : goal.invariant-loop-place
invariant-loop-place g l = (k : ℕ) → k < l.place → age_at l.machine l.tile (slice_index l.order k) ≤ age_at l.machine l.tile l.input
