use Rattle.deadlock_laws.proofs.Never.{never}
use Rattle.deadlock_laws.proofs.classes.rising_classes_have_no_lock_up.Goals as goal

pub returns : goal.returns
returns c = never
