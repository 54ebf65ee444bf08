use Rattle.net_interface.proofs.WantedPorts.{possible, at_start, kept}
use Rattle.net_interface.proofs.laws.wanted_ports_are_there.Goals as goal

pub returns : goal.returns
returns c = record { possible = possible; start = at_start; kept = kept }
