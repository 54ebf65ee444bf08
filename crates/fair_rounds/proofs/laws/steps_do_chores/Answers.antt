use Rattle.fair_rounds.proofs.Charges.{step_charges}
use Rattle.fair_rounds.proofs.laws.steps_do_chores.Goals as goal

pub returns : goal.returns
returns c = step_charges
