use Rattle.deadlock_laws.proofs.Kept.{owe_reached}
use Rattle.network_judge.specs.TableNet.{numbered}
use Rattle.deadlock_laws.proofs.Going.{goes_or_done}
use Rattle.deadlock_laws.proofs.classes.rising_classes_never_lock_up.Goals as goal

pub returns : goal.returns
returns c = λ t p numbers are is roomy depth flits deep s reached.
    goes_or_done t p numbers are is roomy depth flits deep s (owe_reached (numbered t numbers depth flits) p s reached) reached
