use Rattle.network_text.specs.ChoosingRead.{choosing_text_of}
use Rattle.network_text.proofs.Placed.{choice_put}
use Rattle.network_text.proofs.choosing.Choosing.put_row.Goals as goal

pub loop-place-preserved : goal.loop-place-preserved
loop-place-preserved g c =
    choice_put c.args.out.now.items c.loop-place.out.items c.push.new.self.items (choosing_text_of c.args.self.now) c.args.to c.args.at c.loop-place.place
    c.choice.result c.loop-place.invariant c.in_ok-push.ensures.items c.choice.ensures
