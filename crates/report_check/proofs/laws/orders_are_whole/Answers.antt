use Rattle.report_check.proofs.Legal.{orders_whole}
use Rattle.report_check.proofs.laws.orders_are_whole.Goals as goal

pub returns : goal.returns
returns c = orders_whole
