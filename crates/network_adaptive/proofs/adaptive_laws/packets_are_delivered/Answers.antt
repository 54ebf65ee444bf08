use Rattle.network_adaptive.proofs.Arrive.{sent_reached, whole_was_sent, whole_once, all_come}
use Rattle.network_adaptive.proofs.adaptive_laws.packets_are_delivered.Goals as goal

pub returns : goal.returns
returns c = record {
  reached = λ n net s is. sent_reached n s net is;
  sent = λ n net s is. whole_was_sent n s (sent_reached n s net is);
  once = λ n net s is. whole_once n s (sent_reached n s net is);
  come = λ n net s is. all_come n s (sent_reached n s net is);
}
