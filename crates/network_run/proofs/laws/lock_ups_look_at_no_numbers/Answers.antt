use Rattle.network_run.proofs.Numberless.{lock_up_of, never_under}
use Rattle.network_run.proofs.laws.lock_ups_look_at_no_numbers.Goals as goal

pub returns : goal.returns
returns c = record { every = lock_up_of; never = never_under }
