use Rattle.torus.proofs.Neighbours.{neighbour, other_tile}
use Rattle.torus.proofs.laws.neighbours_are_other_tiles.Goals as goal

pub returns : goal.returns
returns c = record { exists = neighbour; other = other_tile }
