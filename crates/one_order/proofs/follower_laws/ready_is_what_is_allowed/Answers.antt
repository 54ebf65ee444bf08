use Rattle.one_order.proofs.Shown.{ready_is_allowed, allowed_is_ready}
use Rattle.one_order.proofs.follower_laws.ready_is_what_is_allowed.Goals as goal

pub returns : goal.returns
returns c = record {
  allowed = λ lines past f o accepted h before next. ready_is_allowed lines past f accepted h o before next;
  ready = λ lines past f o accepted h follows. allowed_is_ready lines past f accepted h o follows;
}
