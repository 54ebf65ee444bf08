use Rattle.machine_asked.proofs.Numbered.{asked_is_numbered}
use Rattle.machine_asked.proofs.laws.operations_are_numbered.Goals as goal

pub returns : goal.returns
returns c = asked_is_numbered
