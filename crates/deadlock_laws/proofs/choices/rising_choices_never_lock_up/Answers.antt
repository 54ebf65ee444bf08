use Rattle.deadlock_laws.proofs.Empties.{nothing_stands, never_locks}
use Rattle.deadlock_laws.proofs.choices.rising_choices_never_lock_up.Goals as goal

pub returns : goal.returns
returns c = record { empty = nothing_stands; never = never_locks }
