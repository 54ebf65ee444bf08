use Rattle.core_laws.proofs.OwnParts.{processors_alike, routers_alike, banks_alike}
use Rattle.core_laws.proofs.laws.choices_look_at_their_own_part.Goals as goal

pub returns : goal.returns
returns c = record { processor = processors_alike; router = routers_alike; bank = banks_alike }
