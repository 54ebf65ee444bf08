use Rattle.one_order.proofs.Unique.{same_rows}
use Rattle.one_order.proofs.laws.order_is_unique.Goals as goal

pub returns : goal.returns
returns c = same_rows
