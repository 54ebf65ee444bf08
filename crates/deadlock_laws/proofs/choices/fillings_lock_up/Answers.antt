use Rattle.deadlock_laws.proofs.ChoiceFilled.{fillings_lock}
use Rattle.deadlock_laws.proofs.choices.fillings_lock_up.Goals as goal

pub returns : goal.returns
returns c = fillings_lock
