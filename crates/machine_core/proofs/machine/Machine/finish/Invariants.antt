use Rattle.std.proofs.Common.{◌-◌}
use Rattle.machine_core.proofs.Finishing.{HasMade}
use Rattle.machine_core.proofs.machine.Machine.finish.Given as goal

-- so many rounds are made, and before each some script wasn't finished
abbrev pub invariant-loop-self : goal.invariant-loop-self
invariant-loop-self g l = HasMade l.fn.self l.self l.rounds

-- no machine needs more rounds than the moves that a machine can have left
abbrev pub decreases-loop-self : goal.decreases-loop-self
decreases-loop-self g l = 15794304 - l.rounds
