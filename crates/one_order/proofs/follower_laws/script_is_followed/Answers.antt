use Rattle.one_order.proofs.Shown.{followed}
use Rattle.one_order.proofs.follower_laws.script_is_followed.Goals as goal

pub returns : goal.returns
returns c = followed
