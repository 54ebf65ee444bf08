use Rattle.machine_core.proofs.Orders.{turned_is, turned_round_is, oldest_is, oldest_first}
use Rattle.fair_rounds.proofs.laws.arbiters_order_inputs.Goals as goal

pub returns : goal.returns
returns c = record { by_turn = turned_is; rounds = turned_round_is; oldest = oldest_is; first = oldest_first }
