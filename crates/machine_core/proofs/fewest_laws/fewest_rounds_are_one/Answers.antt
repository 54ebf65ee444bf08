-- Both say the same of rounds in order.
use Rattle.machine_core.proofs.LawsRounds.{fewest_once}
use Rattle.machine_core.proofs.fewest_laws.fewest_rounds_are_one.Goals as goal

pub returns-clause-one : goal.returns-clause-one
returns-clause-one c = fewest_once

pub returns-clause-in_order : goal.returns-clause-in_order
returns-clause-in_order c = λ l most k. (
  λ f. record { allowed = f.allowed; unfinished = f.unfinished; finished = f.finished },
  λ f. record { allowed = f.allowed; unfinished = f.unfinished; finished = f.finished },
)
