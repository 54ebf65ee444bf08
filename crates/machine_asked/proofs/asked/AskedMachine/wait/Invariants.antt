use Rattle.std.proofs.Common.{◌-◌, ◌≡◌}
use Rattle.machine_asked.proofs.Waiting.{HasWaited}
use Rattle.machine_asked.proofs.asked.AskedMachine.wait.Given as goal

-- so many rounds are made, and before each of them the operation had to be waited for
abbrev pub invariant-loop-self : goal.invariant-loop-self
invariant-loop-self g l = record {
  waited : HasWaited l.fn.self.core l.self.core l.processor l.index l.rounds;
  spins : l.self.spins ≡ l.fn.self.spins;
  guard : l.self.guard ≡ l.fn.self.guard;
}

-- no machine needs more rounds than the moves that a machine can have left
abbrev pub decreases-loop-self : goal.decreases-loop-self
decreases-loop-self g l = 15794304 - l.rounds
