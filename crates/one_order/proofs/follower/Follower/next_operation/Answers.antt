use Rattle.std.proofs.Common.{◌∙◌, List, ap, drop, option_map}
use Rattle.packet.specs.declared.kinds.Operation.{Operation}
use Rattle.script_lines.specs.declared.line.Line.{Line}
use Rattle.one_order.specs.Following.{Following, ready_operation, next_operation_of}
use Rattle.one_order.proofs.follower.Follower.next_operation.Goals as goal

pub returns : goal.returns
unfolding next_operation_of
returns g c =
    c.ready.ensures
    ∙ (ap (λ (ls : List Line). option_map (λ (o : Operation). (o.address, o.op)) (ready_operation c.self.inside.spin (drop c.self.inside.at ls) c.self.inside.last))
    c.as_slice.ensures.value
    ∙ ap (λ (f : Following). option_map (λ (o : Operation). (o.address, o.op)) (ready_operation f.spin f.ahead f.last)) c.self.view_is)
