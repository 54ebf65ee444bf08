use Rattle.one_order.proofs.LoadingAccepted.{accepted_load}
use Rattle.core_laws.proofs.machine_laws.readers_give_accepted_loads.Goals as goal

pub returns : goal.returns
returns c = accepted_load
