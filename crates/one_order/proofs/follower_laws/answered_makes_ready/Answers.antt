use Rattle.one_order.proofs.Shown.{progress}
use Rattle.one_order.proofs.follower_laws.answered_makes_ready.Goals as goal

pub returns : goal.returns
returns c = progress
