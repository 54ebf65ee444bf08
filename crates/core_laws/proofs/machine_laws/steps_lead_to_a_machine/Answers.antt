use Rattle.core_laws.proofs.Machines.{stands_after, reports_well}
use Rattle.core_laws.specs.Machine.{core_after_load}
use Rattle.core_laws.proofs.machine_laws.steps_lead_to_a_machine.Goals as goal

pub returns : goal.returns
returns c = record {
  after = stands_after;
  reports = λ l steps ok. reports_well l (core_after_load l steps) steps (stands_after l steps ok);
}
