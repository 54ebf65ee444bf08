use Rattle.network_judge.proofs.Nets.{is_net}
use Rattle.network_judge.proofs.laws.rising_tables_are_networks.Goals as goal

pub returns : goal.returns
returns c = is_net
