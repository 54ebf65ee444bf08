use Rattle.network_text.proofs.Pieces.{line_put}
use Rattle.network_text.specs.ChoosingRead.{choosing_text_of}
use Rattle.network_text.specs.ChoiceLists.{choice_row}
use Rattle.network_text.proofs.choosing.Choosing.put_block.Goals as goal

pub loop-at-preserved : goal.loop-at-preserved
loop-at-preserved g c =
    line_put c.args.out.now.items c.loop-at.out.items c.put_row.new.out.items (choice_row (choosing_text_of c.args.self.now) c.args.to) c.loop-at.at
    c.loop-at.invariant c.in_ok-put_row.ensures
