use Rattle.core_laws.proofs.OnTheWay.{have_packets}
use Rattle.core_laws.proofs.laws.held_tags_have_packets_on_the_way.Goals as goal

pub returns : goal.returns
returns c = have_packets
