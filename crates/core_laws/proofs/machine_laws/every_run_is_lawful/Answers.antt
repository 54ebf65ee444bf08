use Rattle.core_laws.proofs.Lawful.{lawful}
use Rattle.core_laws.proofs.machine_laws.every_run_is_lawful.Goals as goal

pub returns : goal.returns
returns c = λ l steps ok. lawful l ok steps
