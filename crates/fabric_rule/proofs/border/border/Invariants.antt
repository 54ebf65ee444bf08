use Rattle.std.proofs.Common.{ℕ, List}
use Rattle.fabric_rule.specs.Border.{AreOf, TakesInside, CreditsInside}
use Rattle.fabric_rule.proofs.border.border.Given as goal

abbrev pub invariant-loop-tile : goal.invariant-loop-tile
invariant-loop-tile l = record {
  takes : (gs : List (List ℕ)) → AreOf gs l.first l.end → TakesInside l.torus gs l.takes;
  credits : (gs : List (List ℕ)) → AreOf gs l.first l.end → CreditsInside l.torus gs l.credits;
}
