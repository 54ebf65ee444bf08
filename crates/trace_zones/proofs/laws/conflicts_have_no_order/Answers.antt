use Rattle.trace_zones.proofs.Certificates.{certified}
use Rattle.trace_zones.proofs.laws.conflicts_have_no_order.Goals as goal

pub returns : goal.returns
returns g c = λ opening trace w conflict t l h is. certified opening trace w conflict t l h is
