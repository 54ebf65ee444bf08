use Rattle.dead_sets.proofs.Zeros.{AreFlagsSo}
use Rattle.dead_sets.proofs.greatest.flags_of.Given as goal

-- the flags so far
abbrev pub invariant-loop-x : goal.invariant-loop-x
invariant-loop-x g l = AreFlagsSo l.left l.x l.flags.items
