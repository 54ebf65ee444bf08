use Rattle.fabric_rule.proofs.Kept as kept
use Rattle.fabric_rule.proofs.wake_laws.seats_keep_sleepers.Goals as goal

pub returns : goal.returns
returns c = record {
  others = kept.others_keep;
  moved = λ load ok gs run between awake f x p op sleep others mine here asks can other.
      kept.moved_keep load ok gs run between awake f sleep others x p op mine here asks can other;
  routers = λ load ok gs run between awake f t choice p op sleep others mine here asks can.
      kept.router_keep load ok gs run between awake f sleep others t choice p op mine here asks can;
}
