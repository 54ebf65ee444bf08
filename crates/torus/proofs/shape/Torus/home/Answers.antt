use Rattle.std.proofs.Common.{arith}
use Rattle.std.proofs.lemmas.Nat.{mod_below}
use Rattle.torus.proofs.shape.Torus.home.Goals as goal

pub returns-clause-bank : goal.returns-clause-bank
returns-clause-bank c =
    omega (arith, mod_below c.args.a c.tiles-tiles.result c.tiles-tiles.ensures.some)
