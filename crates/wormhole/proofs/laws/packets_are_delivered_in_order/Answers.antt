use Rattle.wormhole.proofs.Reached.{routes_reached}
use Rattle.wormhole.proofs.Arrivals.{delivered, whole_was_sent}
use Rattle.wormhole.proofs.laws.packets_are_delivered_in_order.Goals as goal

pub returns : goal.returns
returns c = record {
  kept = λ n s r i j joined. delivered n s i j r joined;
  reached = λ n net s is i j joined. delivered n s i j (routes_reached n s net is) joined;
  sent = λ n s r x. whole_was_sent n s x r;
  reached_sent = λ n net s is x. whole_was_sent n s x (routes_reached n s net is);
}
