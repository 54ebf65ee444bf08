use Rattle.trace_laws.proofs.Merging.{one_order}
use Rattle.trace_laws.proofs.WordOrders.{word_order}
use Rattle.trace_laws.proofs.laws.linearizability_is_local.Goals as goal

pub returns : goal.returns
returns c = λ opening trace t. (word_order opening trace t, one_order opening trace t)
