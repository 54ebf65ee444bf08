use Rattle.deadlock_laws.proofs.Both.{settles}
use Rattle.deadlock_laws.proofs.lengths.verdicts_decide_lengths_that_fit.Goals as goal

pub returns : goal.returns
returns g c = settles
