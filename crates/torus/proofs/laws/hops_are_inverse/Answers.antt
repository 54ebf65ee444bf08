use Rattle.torus.proofs.Hops.{plus-minus, minus-plus}
use Rattle.torus.proofs.laws.hops_are_inverse.Goals as goal

pub returns : goal.returns
returns c = record { plus = plus-minus; minus = minus-plus }
