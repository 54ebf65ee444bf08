use Rattle.std.proofs.Common.{length, arith, ap, ◌∙◌}
use Rattle.fabric.specs.Ending.{Ended}
use Rattle.fabric.proofs.ending.Final.words.Goals as goal

pub overflow_cast-result : goal.overflow_cast-result
overflow_cast-result g c =
    let few = c.self.invariant.0.accepted.size.1 in
    let same = ap length c.self.invariant.0.opening in
    let n = c.self.inside.opening.ok.0 in
    omega (arith, few, same, n)

pub returns : goal.returns
returns g c = c.len.ensures ∙ (c.self.inside.opening.ok.0 ∙ (ap length c.self.invariant.0.opening ∙ ap (λ (e : Ended). length e.load.opening) c.self.view_is))
