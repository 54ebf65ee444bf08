use Rattle.machine_parts.proofs.PortSets.{none_shown}
use Rattle.machine_parts.proofs.port_set.PortSet.none.Goals as goal

pub returns : goal.returns
returns c = λ t k. none_shown t k
