use Rattle.one_order.proofs.Ended.{ended}
use Rattle.one_order.proofs.follower_laws.finished_wants_nothing.Goals as goal

pub returns : goal.returns
returns c = ended
