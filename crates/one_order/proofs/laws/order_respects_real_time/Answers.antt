use Rattle.one_order.proofs.EventNumbers.{real_time, real_time_of_rows}
use Rattle.one_order.proofs.laws.order_respects_real_time.Goals as goal

pub returns : goal.returns
returns c = record { order = real_time; rows = real_time_of_rows }
