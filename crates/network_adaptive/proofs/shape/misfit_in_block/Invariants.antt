use Rattle.network_adaptive.specs.Shape.{BlockFits}
use Rattle.network_adaptive.proofs.shape.misfit_in_block.Given as goal

-- no such choice so far
abbrev pub invariant-loop-x : goal.invariant-loop-x
invariant-loop-x l = BlockFits l.kinds l.choices l.base l.ways l.to l.x
