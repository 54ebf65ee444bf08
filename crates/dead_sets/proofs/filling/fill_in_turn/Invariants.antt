use Rattle.std.proofs.Common.{map}
use Rattle.network_adaptive.specs.Choosing.{choosing_of}
use Rattle.dead_sets.specs.FillingFlags.{filling_of}
use Rattle.dead_sets.proofs.FilledTold.{IsFilledSo}
use Rattle.dead_sets.proofs.filling.fill_in_turn.Given as goal

-- the channels from a place on are filled
abbrev pub invariant-back : goal.invariant-back
invariant-back g l = IsFilledSo (choosing_of l.kinds l.joins l.ways l.choices l.marks) (map filling_of l.items) l.place l.taken l.full

abbrev pub decreases-back : goal.decreases-back
decreases-back g l = l.place
