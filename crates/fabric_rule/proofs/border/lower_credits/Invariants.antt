use Rattle.std.proofs.Common.{ℕ, List}
use Rattle.fabric_rule.specs.Border.{AreOf, CreditsInside}
use Rattle.fabric_rule.proofs.border.lower_credits.Given as goal

-- the outputs so far are lowered where no other seat can disturb them
abbrev pub invariant-loop-output : goal.invariant-loop-output
invariant-loop-output l = (gs : List (List ℕ)) → AreOf gs l.first l.end → CreditsInside l.torus gs l.fn.set → CreditsInside l.torus gs l.set
