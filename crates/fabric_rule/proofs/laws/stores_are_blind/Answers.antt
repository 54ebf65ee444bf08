use Rattle.fabric_rule.proofs.Stores.{blind_moves, blind_left, blind_suits}
use Rattle.fabric_rule.proofs.laws.stores_are_blind.Goals as goal

pub returns : goal.returns
returns c = λ load p attempt word v n m e. (blind_moves p attempt word v n m e, blind_left p attempt word v n m e, blind_suits load p attempt word v n m e)
