use Rattle.core_laws.specs.Core.{step}
use Rattle.core_laws.specs.Machine.{built_to}
use Rattle.core_laws.proofs.MachineEnabled as generic
use Rattle.core_laws.proofs.StepLists.{machine_alike, machine_again, machine_all, machine_enabled, machine_count, machine_joined, machine_stands}
use Rattle.core_laws.proofs.StepLists.{machine_further, machine_few}
use Rattle.core_laws.proofs.move_laws.moves_of_machines_lead_alike.Goals as goal

pub returns : goal.returns
returns n = record {
  part = λ c steps. generic.part (step (built_to c)) c.state steps;
  enabled = machine_enabled;
  machine = machine_alike;
  again = machine_again;
  all = machine_all;
  count = machine_count;
  joined = machine_joined;
  stands = machine_stands;
  further = machine_further;
  few = machine_few;
}
