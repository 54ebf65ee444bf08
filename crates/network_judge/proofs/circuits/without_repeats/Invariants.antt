use Rattle.network_judge.proofs.Repeats.{ArePlaces}
use Rattle.network_judge.proofs.circuits.without_repeats.Given as goal

-- the first links are of distinct channels
abbrev pub invariant-loop-place : goal.invariant-loop-place
invariant-loop-place g l = ArePlaces l.kinds l.links l.place l.places.items
