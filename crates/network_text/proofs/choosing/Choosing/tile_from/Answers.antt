use Rattle.std.proofs.Common.{[]}
use Rattle.network_text.proofs.Pieces.{line_put}
use Rattle.network_text.specs.ChoosingRead.{choosing_text_of}
use Rattle.network_text.specs.Tiles.{tile_lines}
use Rattle.network_text.proofs.choosing.Choosing.tile_from.Goals as goal

pub loop-channel-preserved : goal.loop-channel-preserved
loop-channel-preserved g c =
    line_put [] c.loop-channel.cells.items c.put_lines.new.cells.items
    (tile_lines (choosing_text_of c.args.self.now) c.args.from c.min-width.result) c.loop-channel.channel
    c.loop-channel.invariant c.in_ok-put_lines.ensures
