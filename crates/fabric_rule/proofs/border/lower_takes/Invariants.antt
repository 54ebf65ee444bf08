use Rattle.std.proofs.Common.{ℕ, List}
use Rattle.fabric_rule.specs.Border.{AreOf, TakesInside}
use Rattle.fabric_rule.proofs.border.lower_takes.Given as goal

-- the inputs so far are lowered where no other seat can disturb them
abbrev pub invariant-loop-input : goal.invariant-loop-input
invariant-loop-input l = (gs : List (List ℕ)) → AreOf gs l.first l.end → TakesInside l.torus gs l.fn.set → TakesInside l.torus gs l.set
