use Rattle.std.proofs.Common.{◌≡◌}
use Rattle.network_text.specs.Lines.{first_lines}
use Rattle.network_text.specs.ChoosingRead.{choosing_text_of}
use Rattle.network_text.specs.Tiles.{tile_lines}
use Rattle.network_text.proofs.choosing.Choosing.tile_from.Given as goal

abbrev pub invariant-loop-channel : goal.invariant-loop-channel
invariant-loop-channel g l = l.cells.items ≡ first_lines (tile_lines (choosing_text_of l.self) l.from l.width) l.channel
