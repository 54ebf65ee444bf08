use Rattle.dead_sets.proofs.Zeros.{AreNumbersSo}
use Rattle.dead_sets.proofs.greatest.numbers_of.Given as goal

-- the channels from a place on have their numbers
abbrev pub invariant-back : goal.invariant-back
invariant-back g l = AreNumbersSo l.count l.order l.at l.numbers.items

abbrev pub decreases-back : goal.decreases-back
decreases-back g l = l.at
