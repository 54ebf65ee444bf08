use Rattle.core_laws.proofs.Machines.{after_step, after_steps}
use Rattle.core_laws.proofs.machine_laws.steps_lead_on.Goals as goal

pub returns : goal.returns
returns c = record { step = after_step; steps = after_steps }
