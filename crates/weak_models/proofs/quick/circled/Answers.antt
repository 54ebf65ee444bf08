use Rattle.weak_models.specs.Around.{AreStepsAround}
use Rattle.weak_models.proofs.Exact.{led_around, no_order_around}
use Rattle.weak_models.proofs.quick.circled.Goals as goal

pub returns-in-Some : goal.returns-in-Some
returns-in-Some g c =
    let steps : AreStepsAround c.args.notes.now c.args.dependencies.now c.args.operations.now c.args.writes.now c.args.around.now c.in-Some.steps.items =
    rw c.in-Some.is at c.in_ok-steps.ensures in (
      led_around c.args.notes.now c.args.dependencies.now c.args.operations.now c.args.writes.now c.args.around.now c.in-Some.steps.items steps,
      no_order_around c.args.words c.args.notes.now c.args.dependencies.now c.args.operations.now c.args.writes.now c.args.around.now c.in-Some.steps.items
          c.requires steps,
    )
