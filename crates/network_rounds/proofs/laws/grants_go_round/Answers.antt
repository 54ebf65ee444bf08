use Rattle.network_rounds.proofs.Turns.{go_round}
use Rattle.network_rounds.proofs.laws.grants_go_round.Goals as goal

pub returns : goal.returns
returns c = go_round
