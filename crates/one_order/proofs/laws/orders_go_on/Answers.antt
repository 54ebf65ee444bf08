use Rattle.one_order.proofs.Beginnings.{rows_go_on}
use Rattle.one_order.proofs.laws.orders_go_on.Goals as goal

pub returns : goal.returns
returns c = rows_go_on
