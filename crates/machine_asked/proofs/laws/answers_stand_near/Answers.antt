use Rattle.machine_asked.proofs.Lags.{stand_near}
use Rattle.machine_asked.proofs.laws.answers_stand_near.Goals as goal

pub returns : goal.returns
returns c = stand_near
