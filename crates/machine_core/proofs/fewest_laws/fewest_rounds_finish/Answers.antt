-- A machine that is loaded stands after no step.
use Rattle.machine_core.proofs.LawsRounds.{fewest_needed, needed_fewest}
use Rattle.machine_core.proofs.fewest_laws.fewest_rounds_finish.Goals as goal

pub returns-clause-needed : goal.returns-clause-needed
returns-clause-needed c = fewest_needed

pub returns-clause-fewest : goal.returns-clause-fewest
returns-clause-fewest c = needed_fewest
