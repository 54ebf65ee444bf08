use Rattle.one_order.proofs.Shown.{address_is}
use Rattle.one_order.proofs.follower_laws.addresses_are_named.Goals as goal

pub returns : goal.returns
returns c = record {
  named = λ lines past f o accepted h next. address_is lines past f accepted h o next;
  below = λ lines past f o words accepted h next all. all o.address (address_is lines past f accepted h o next);
}
