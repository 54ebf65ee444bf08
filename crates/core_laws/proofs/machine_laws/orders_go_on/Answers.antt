use Rattle.core_laws.proofs.Beginnings.{rows_begin}
use Rattle.core_laws.proofs.machine_laws.orders_go_on.Goals as goal

pub returns : goal.returns
returns c = rows_begin
