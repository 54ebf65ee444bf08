use Rattle.std.proofs.Common.{[]}
use Rattle.network_text.proofs.Pieces.{line_put}
use Rattle.network_text.specs.ChoosingRead.{choosing_text_of}
use Rattle.network_text.specs.ChoiceLists.{block_toward}
use Rattle.network_text.proofs.choosing.Choosing.choices.Goals as goal

pub loop-to-init : goal.loop-to-init
loop-to-init g c = record { put = c.in_ok-out.ensures.items; tile = c.in_ok-tile.ensures.tile }

pub loop-to-preserved : goal.loop-to-preserved
loop-to-preserved g c = record {
  put = line_put [] c.loop-to.out.items c.put_block.new.out.items (block_toward (choosing_text_of c.args.self.now)) c.loop-to.to
      c.loop-to.invariant.put c.in_ok-put_block.ensures;
  tile = c.in_ok-found.ensures.tile;
}
