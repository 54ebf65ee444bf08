use Rattle.core_laws.proofs.EveryRun.{packets_delivered}
use Rattle.core_laws.proofs.laws.packets_are_delivered_in_order.Goals as goal

pub returns : goal.returns
returns c = packets_delivered
