use Rattle.channel_number.specs.Failing.{RisesTo}
use Rattle.channel_number.proofs.checker.failing_from.Given as goal

-- the numbers rise to the destinations passed
abbrev pub invariant-loop-dst : goal.invariant-loop-dst
invariant-loop-dst l = RisesTo l.torus l.numbers l.class l.src l.dst
