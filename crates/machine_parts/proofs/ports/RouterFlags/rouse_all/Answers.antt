use Rattle.std.proofs.Common.{arith}
use Rattle.std.proofs.lemmas.Grind.{common_steps}
use Rattle.machine_parts.proofs.ports.RouterFlags.rouse_all.Goals as goal

pub returns-then-self-clause-flags : goal.returns-then-self-clause-flags
returns-then-self-clause-flags g c = grind (arith, common_steps)

pub returns-clause-flags : goal.returns-clause-flags
returns-clause-flags g c = grind (arith, common_steps)
