use Rattle.torus.proofs.Kept.{two_radices_small}
use Rattle.torus.proofs.shape.Torus.stride.Goals as goal

pub returns-in_default-clause-small : goal.returns-in_default-clause-small
returns-in_default-clause-small c = two_radices_small c.self.inside c.self.invariant 0 1
