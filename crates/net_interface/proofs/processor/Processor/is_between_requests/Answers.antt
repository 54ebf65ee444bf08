use Rattle.std.proofs.Common.{ap}
use Rattle.net_interface.specs.Place.{ProcessorPlace}
use Rattle.net_interface.proofs.Course.{none_in_course}
use Rattle.net_interface.proofs.processor.Processor.is_between_requests.Goals as goal

pub returns : goal.returns
returns g c =
    none_in_course c.args.self.now.agent.state.to_put c.self.inside.put c.self.inside.flits.items
    (ap (λ (p : ProcessorPlace). p.agent.state.to_put) c.self.view_is) c.self.invariant.left
