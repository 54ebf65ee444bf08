use Rattle.core_laws.proofs.Deliveries.{delivers_packets}
use Rattle.core_laws.proofs.machine_laws.packets_are_delivered.Goals as goal

pub returns : goal.returns
returns c = delivers_packets
