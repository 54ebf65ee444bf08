use Rattle.core_laws.proofs.EveryRun.{scripts_are_followed}
use Rattle.core_laws.proofs.laws.scripts_are_followed.Goals as goal

pub returns : goal.returns
returns c = scripts_are_followed
