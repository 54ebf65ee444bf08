use Rattle.wormhole.proofs.Reached.{routes_reached}
use Rattle.wormhole.proofs.Arrivals.{delivered, whole_was_sent}
use Rattle.network_judge.specs.TableNet.{numbered}
use Rattle.network_judge.proofs.progress_laws.judged_networks_deliver.Goals as goal

pub returns : goal.returns
returns c = record {
  order = λ t replies numbers is depth flits s reached i j joined.
      delivered (numbered t numbers depth flits) s i j (routes_reached (numbered t numbers depth flits) s (is.net depth flits) reached) joined;
  sent = λ t replies numbers is depth flits s reached x.
      whole_was_sent (numbered t numbers depth flits) s x (routes_reached (numbered t numbers depth flits) s (is.net depth flits) reached);
}
