use Rattle.one_order.proofs.InTurn.{serves_in_turn}
use Rattle.one_order.proofs.laws.banks_serve_in_turn.Goals as goal

pub returns : goal.returns
returns c = serves_in_turn
