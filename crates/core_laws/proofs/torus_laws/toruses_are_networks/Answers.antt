use Rattle.core_laws.proofs.Facts.{is_net}
use Rattle.core_laws.proofs.torus_laws.toruses_are_networks.Goals as goal

pub returns : goal.returns
returns c = is_net
