use Rattle.std.proofs.Common.{arith}
use Rattle.std.proofs.lemmas.Grind.{common_steps}
use Rattle.machine_core.proofs.loading.first_row.Goals as goal

pub returns : goal.returns
returns g c = grind (arith, common_steps)
