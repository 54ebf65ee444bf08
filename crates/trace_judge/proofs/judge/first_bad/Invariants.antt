use Rattle.trace_judge.proofs.Boundary.{Boundary}
use Rattle.std.proofs.Common.{◌-◌}
use Rattle.trace_judge.proofs.judge.first_bad.Given as goal

abbrev pub invariant-loop-good : goal.invariant-loop-good
invariant-loop-good g l = Boundary l.opening l.events l.good l.bad

abbrev pub decreases-loop-good : goal.decreases-loop-good
decreases-loop-good g l = l.bad - l.good
