use Rattle.network_judge.proofs.Exactly.{alike, network_rises}
use Rattle.network_judge.proofs.laws.verdicts_are_exact.Goals as goal

pub returns : goal.returns
returns g c = record { alike = alike; rising = network_rises }
