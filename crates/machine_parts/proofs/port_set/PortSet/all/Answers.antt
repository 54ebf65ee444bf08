use Rattle.machine_parts.proofs.PortSets.{all_shown}
use Rattle.machine_parts.proofs.port_set.PortSet.all.Goals as goal

pub returns : goal.returns
returns c = λ t k. all_shown t k
