use Rattle.std.proofs.Common.{◌≡◌, ◌++◌}
use Rattle.network_text.specs.Lines.{first_lines}
use Rattle.network_text.specs.ChoosingRead.{choosing_text_of}
use Rattle.network_text.specs.Tiles.{tile_line}
use Rattle.network_text.proofs.choosing.Choosing.put_lines.Given as goal

abbrev pub invariant-loop-place : goal.invariant-loop-place
invariant-loop-place g l = l.cells.items ≡ l.fn.cells.items ++ first_lines (tile_line (choosing_text_of l.self) l.from l.width l.at) l.place
