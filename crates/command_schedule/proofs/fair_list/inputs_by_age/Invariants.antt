use Rattle.std.proofs.Common.{◌≡◌, ◌≤◌, length}
use Rattle.std.specs.List.{range_with_len}
use Rattle.machine_core.specs.Oldest.{sorted_by}
use Rattle.machine_core.specs.Ordered.{age_at}
use Rattle.command_schedule.proofs.fair_list.inputs_by_age.Given as goal

-- the inputs so far are in order
abbrev pub invariant-loop-input : goal.invariant-loop-input
invariant-loop-input g l = record {
  made : l.order.items ≡ sorted_by (age_at l.machine l.tile) (range_with_len 0 l.input);
  few : length l.order.items ≤ l.input;
}
