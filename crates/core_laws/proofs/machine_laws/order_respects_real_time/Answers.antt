use Rattle.core_laws.proofs.Machines.{real_time_of_steps, real_time_of_machine}
use Rattle.core_laws.proofs.machine_laws.order_respects_real_time.Goals as goal

pub returns : goal.returns
returns c = record { steps = real_time_of_steps; rows = real_time_of_machine }
