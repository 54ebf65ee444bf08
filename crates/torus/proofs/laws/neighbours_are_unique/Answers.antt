use Rattle.torus.proofs.Hops.{one_neighbour}
use Rattle.torus.proofs.laws.neighbours_are_unique.Goals as goal

pub returns : goal.returns
returns c = one_neighbour
