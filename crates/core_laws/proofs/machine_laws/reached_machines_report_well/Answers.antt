use Rattle.core_laws.proofs.Machines.{reports_well}
use Rattle.core_laws.proofs.machine_laws.reached_machines_report_well.Goals as goal

pub returns : goal.returns
returns c = reports_well
