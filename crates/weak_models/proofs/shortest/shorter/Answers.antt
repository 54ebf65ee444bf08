use Rattle.weak_models.specs.Around.{AreStepsAround}
use Rattle.weak_models.proofs.Exact.{led_around}
use Rattle.weak_models.proofs.shortest.shorter.Goals as goal

pub returns-in-Some : goal.returns-in-Some
returns-in-Some g c =
    let steps : AreStepsAround c.args.notes.now c.args.dependencies.now c.args.operations.now c.args.writes.now c.deref-2.result.now c.in-Some.steps.items =
    rw c.in-Some.is at c.in_ok-steps.ensures in
    led_around c.args.notes.now c.args.dependencies.now c.args.operations.now c.args.writes.now c.deref-2.result.now c.in-Some.steps.items steps
