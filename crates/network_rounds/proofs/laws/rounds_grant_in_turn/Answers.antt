use Rattle.network_rounds.proofs.Granted.{grants_in_turn}
use Rattle.network_rounds.proofs.laws.rounds_grant_in_turn.Goals as goal

pub returns : goal.returns
returns c = grants_in_turn
