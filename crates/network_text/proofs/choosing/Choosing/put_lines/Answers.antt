use Rattle.network_text.proofs.Pieces.{line_put}
use Rattle.network_text.specs.ChoosingRead.{choosing_text_of}
use Rattle.network_text.specs.Tiles.{tile_line}
use Rattle.network_text.proofs.choosing.Choosing.put_lines.Goals as goal

pub loop-place-preserved : goal.loop-place-preserved
loop-place-preserved g c =
    line_put c.args.cells.now.items c.loop-place.cells.items c.put_line.new.cells.items
    (tile_line (choosing_text_of c.args.self.now) c.args.from c.args.width c.args.at) c.loop-place.place
    c.loop-place.invariant c.in_ok-put_line.ensures
