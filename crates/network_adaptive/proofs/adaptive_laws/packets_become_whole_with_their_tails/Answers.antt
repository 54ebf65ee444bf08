use Rattle.network_adaptive.proofs.Reached.{words_reached, tracks_reached}
use Rattle.network_adaptive.proofs.Arrive.{sent_reached, takes, arrives, none_arrives}
use Rattle.network_adaptive.proofs.adaptive_laws.packets_become_whole_with_their_tails.Goals as goal

pub returns : goal.returns
returns c = record {
  taken = λ n net s is x flit more bit may.
      (takes n net s (words_reached n s net is) (tracks_reached n s net is) (sent_reached n s net is) x flit more bit may).taken;
  tail = λ n net s is x flit more bit may.
      arrives n net s (words_reached n s net is) (tracks_reached n s net is) (sent_reached n s net is) x flit more bit may;
  body = λ n net s is x flit more bit may.
      none_arrives n net s (words_reached n s net is) (tracks_reached n s net is) (sent_reached n s net is) x flit more bit may;
}
