use Rattle.machine_core.proofs.ClockedRounds.{HasMade}
use Rattle.machine_core.proofs.machine.Machine.finish_clocked.Given as goal

-- so many clocked rounds are made, and before each some script wasn't finished
abbrev pub invariant-loop-self : goal.invariant-loop-self
invariant-loop-self g l = HasMade l.fn.self l.self l.rounds

-- each round makes a move
abbrev pub decreases-loop-self : goal.decreases-loop-self
decreases-loop-self g l = l.self.moves_left
