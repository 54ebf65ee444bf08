use Rattle.core_laws.proofs.EveryRun.{has_one_order}
use Rattle.core_laws.proofs.laws.runs_have_one_order.Goals as goal

pub returns : goal.returns
returns c = has_one_order
