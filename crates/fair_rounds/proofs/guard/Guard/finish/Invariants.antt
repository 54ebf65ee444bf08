use Rattle.fair_rounds.proofs.FairFinish.{HasMade}
use Rattle.fair_rounds.proofs.guard.Guard.finish.Given as goal

-- so many fair rounds are made, and before each some script wasn't finished
abbrev pub invariant-loop-self : goal.invariant-loop-self
invariant-loop-self g l = HasMade (record { core = l.fn.machine; guard = l.fn.self }) (record { core = l.machine; guard = l.self }) l.rounds

-- each round makes a move
abbrev pub decreases-loop-self : goal.decreases-loop-self
decreases-loop-self g l = l.machine.moves_left
