use Rattle.one_order.proofs.Shown.{finished_is, finished_from}
use Rattle.one_order.proofs.follower_laws.finished_is_complete.Goals as goal

pub returns : goal.returns
returns c = record { finished = finished_is; complete = finished_from }
