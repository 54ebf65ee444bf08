use Rattle.fair_rounds.proofs.UnderWay.{reached_most, reached_toll}
use Rattle.fair_rounds.proofs.laws.packets_under_way_bound_the_burden.Goals as goal

pub returns : goal.returns
returns c = record { most = reached_most; event = reached_toll }
