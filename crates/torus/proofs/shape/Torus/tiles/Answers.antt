use Rattle.std.proofs.Common.{◌<◌, ◌∙◌, ap, subst, arith}
use Rattle.torus.specs.Shape.{Shape, tiles_of}
use Rattle.torus.proofs.Kept.{tiles_is, some_tiles, two_radices_small, three_radices_small}
use Rattle.torus.proofs.shape.Torus.tiles.Goals as goal

pub overflow_mul-result : goal.overflow_mul-result
overflow_mul-result c = omega (arith, two_radices_small c.self.inside c.self.invariant 0 1)

pub overflow_mul-result-2 : goal.overflow_mul-result-2
overflow_mul-result-2 c = omega (arith, three_radices_small c.self.inside c.self.invariant)

pub returns-clause-value : goal.returns-clause-value
returns-clause-value c = tiles_is c.self.inside c.self.invariant ∙ ap tiles_of c.self.view_is

pub returns-clause-some : goal.returns-clause-some
returns-clause-some c =
    let positive : 0 < tiles_of c.args.self.now =
    (let P : Shape → Type 0 = λ s. 0 < tiles_of s in subst P c.self.view_is (some_tiles c.self.inside c.self.invariant)) in
    omega (arith, tiles_is c.self.inside c.self.invariant ∙ ap tiles_of c.self.view_is)
