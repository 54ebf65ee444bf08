use Rattle.one_order.proofs.Homes.{allowed_homes, shown_homes}
use Rattle.one_order.proofs.follower_laws.homes_are_counted.Goals as goal

pub returns : goal.returns
returns c = record { allowed = allowed_homes; issued = shown_homes }
