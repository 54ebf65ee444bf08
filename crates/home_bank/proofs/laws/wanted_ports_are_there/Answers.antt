use Rattle.home_bank.proofs.WantedPorts.{possible, at_start, kept}
use Rattle.home_bank.proofs.laws.wanted_ports_are_there.Goals as goal

pub returns : goal.returns
returns c = record { possible = possible; start = at_start; kept = kept }
