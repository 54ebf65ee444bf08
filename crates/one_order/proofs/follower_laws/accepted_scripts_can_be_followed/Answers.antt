use Rattle.one_order.proofs.Followable.{accepted_followable}
use Rattle.one_order.proofs.follower_laws.accepted_scripts_can_be_followed.Goals as goal

pub returns : goal.returns
returns c = accepted_followable
