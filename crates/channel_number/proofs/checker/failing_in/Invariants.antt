use Rattle.channel_number.specs.Failing.{RisesFrom}
use Rattle.channel_number.proofs.checker.failing_in.Given as goal

-- the numbers rise from the sources passed
abbrev pub invariant-loop-src : goal.invariant-loop-src
invariant-loop-src l = RisesFrom l.torus l.numbers l.class l.src
