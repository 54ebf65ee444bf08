use Rattle.network_adaptive.specs.Shape.{RowFits}
use Rattle.network_adaptive.proofs.shape.misfit_in_row.Given as goal

-- no such choice so far
abbrev pub invariant-loop-k : goal.invariant-loop-k
invariant-loop-k l = RowFits l.kinds l.choices l.base l.ways l.at l.to l.k
