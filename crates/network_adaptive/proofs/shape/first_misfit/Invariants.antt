use Rattle.network_adaptive.specs.Shape.{ChoicesFit}
use Rattle.network_adaptive.proofs.shape.first_misfit.Given as goal

-- no such choice so far
abbrev pub invariant-loop-to : goal.invariant-loop-to
invariant-loop-to l = ChoicesFit l.kinds l.choices l.ways l.to
