use Rattle.network_text.proofs.Without.{without, without_of_fault}
use Rattle.network_text.proofs.laws.names_change_no_network.Goals as goal

pub returns : goal.returns
returns c = record { why = without; fault = without_of_fault }
