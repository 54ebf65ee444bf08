use Rattle.core_laws.proofs.Reached as reached
use Rattle.core_laws.proofs.laws.credits_add_up.Goals as goal

pub returns : goal.returns
returns c = record { count = reached.channels_there; depth = reached.credits_add_up }
