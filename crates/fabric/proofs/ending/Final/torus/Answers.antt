use Rattle.std.proofs.Common.{ap, ◌∙◌}
use Rattle.fabric.specs.Ending.{Ended}
use Rattle.fabric.proofs.ending.Final.torus.Goals as goal

pub returns : goal.returns
returns g c = c.self.invariant.0.torus ∙ ap (λ (e : Ended). e.load.shape) c.self.view_is
