use Rattle.core_laws.proofs.UnreportedMachines.{any_time}
use Rattle.core_laws.proofs.reopening_laws.lines_come_at_any_time.Goals as goal

pub returns : goal.returns
returns n = any_time
