use Rattle.one_order.proofs.Shown.{issued_is, waiting_is, last_is}
use Rattle.one_order.proofs.follower_laws.shown_operations_are_kept.Goals as goal

pub returns : goal.returns
returns c = record { issued = issued_is; waiting = waiting_is; last = last_is }
