use Rattle.core_laws.proofs.Operations.{operations_tell}
use Rattle.core_laws.proofs.wake_laws.operations_tell_whom_they_wake.Goals as goal

pub returns : goal.returns
returns c = operations_tell
