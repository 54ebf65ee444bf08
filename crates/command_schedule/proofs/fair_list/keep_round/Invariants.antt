use Rattle.std.proofs.Common.{◌*◌, ◌≤◌}
use Rattle.std.specs.List.{flat_map, range_with_len}
use Rattle.machine_core.specs.Arbiters.{arbited_at}
use Rattle.machine_core.specs.Oldest.{oldest}
use Rattle.command_schedule.specs.Fair.{KeepsEnabled}
use Rattle.command_schedule.proofs.fair_list.keep_round.Given as goal

-- the enabled ones at the tiles so far are kept
abbrev pub invariant-loop-tile : goal.invariant-loop-tile
invariant-loop-tile g l = record {
  so_far : KeepsEnabled l.machine (flat_map (λ t. arbited_at l.ports (oldest l.machine t) t) (range_with_len 0 l.tile)) l.fn.room 0 l.room l.count;
  few : l.count ≤ 87 * l.tile;
}
