use Rattle.std.proofs.Common.{◌≡◌}
use Rattle.std.specs.List.{flat_map, range_with_len}
use Rattle.machine_core.specs.Clocked.{turned_at}
use Rattle.command_schedule.proofs.turned_list.turned_tiles.Given as goal

-- the attempts at the tiles so far
abbrev pub invariant-loop-tile : goal.invariant-loop-tile
invariant-loop-tile g l = l.steps.items ≡ flat_map (turned_at l.ports l.first) (range_with_len 0 l.tile)
