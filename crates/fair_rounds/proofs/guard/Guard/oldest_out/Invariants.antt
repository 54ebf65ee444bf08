use Rattle.std.proofs.Common.{◌≡◌}
use Rattle.fair_rounds.specs.Guard.{least_of}
use Rattle.fair_rounds.proofs.guard.Guard.oldest_out.Given as goal

-- the least of the processors so far
abbrev pub invariant-loop-processor : goal.invariant-loop-processor
invariant-loop-processor g l = l.oldest ≡ least_of l.machine l.self.since l.processor l.self.rounds
