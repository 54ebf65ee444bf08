use Rattle.core_laws.proofs.Machines.{same_machine, named_machine}
use Rattle.core_laws.proofs.machine_laws.steps_decide_the_machine.Goals as goal

pub returns : goal.returns
returns c = record { same = same_machine; named = named_machine }
