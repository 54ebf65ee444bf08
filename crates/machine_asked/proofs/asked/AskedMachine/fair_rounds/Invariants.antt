use Rattle.machine_asked.proofs.FairRounds.{HasMadeFair}
use Rattle.machine_asked.proofs.asked.AskedMachine.fair_rounds.Given as goal

-- so many fair rounds are made, and before each some script wasn't finished
abbrev pub invariant-loop-before : goal.invariant-loop-before
invariant-loop-before g l = HasMadeFair l.fn.self l.self l.before
