use Rattle.std.proofs.Common.{ap, ◌∙◌, arith}
use Rattle.fabric.specs.Ending.{Ended}
use Rattle.fabric.proofs.Closing.{opening_at, no_opening_at}
use Rattle.fabric.proofs.ending.Final.opening.Goals as goal

pub returns-then-at-len : goal.returns-then-at-len
returns-then-at-len g c =
    no_opening_at c.self.inside.opening _ c.args.address (omega arith) (c.self.invariant.0.opening ∙ ap (λ (e : Ended). e.load.opening) c.self.view_is)

pub returns : goal.returns
returns g c = opening_at c.self.inside.opening _ c.args.address _ (omega arith) c.index.ensures
    (c.self.invariant.0.opening ∙ ap (λ (e : Ended). e.load.opening) c.self.view_is)
