use Rattle.std.proofs.Common.{◌≡◌}
use Rattle.machine_parts.specs.Grown.{tile_reopened}
use Rattle.machine_parts.proofs.Items.{changed_up_to}
use Rattle.machine_parts.proofs.reports.reopen.Given as goal

abbrev pub invariant-loop-tile : goal.invariant-loop-tile
invariant-loop-tile g l = l.tiles.items ≡ changed_up_to tile_reopened l.tile l.initial.tiles.items
