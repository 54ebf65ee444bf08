use Rattle.std.proofs.Common.{◌≡◌, ap, sym, ◌∙◌}
use Rattle.std.specs.Prelude.{is_some, unwrap_or}
use Rattle.packet.specs.Flit.{field}
use Rattle.flit_buffer.specs.Channel.{first_of}
use Rattle.tag_table.specs.Tags.{holder_of}
use Rattle.net_interface.specs.Place.{ProcessorPlace}
use Rattle.net_interface.proofs.Arriving.{acceptable}
use Rattle.net_interface.proofs.processor.Processor.is_tagged.Goals as goal

pub returns-clause-acceptable : goal.returns-clause-acceptable
returns-clause-acceptable g c = λ yes some.
    let state = c.args.self.now.agent.state in
    let head : c.unwrap_or-head.result ≡ unwrap_or (first_of state.so_far) c.args.flit =
    c.unwrap_or-head.ensures ∙ ap (λ b. unwrap_or b c.args.flit) (c.self.invariant.begun ∙ ap (λ (p : ProcessorPlace). first_of p.agent.state.so_far) c.self.view_is) in
    acceptable state.operations state.so_far c.args.flit
    (ap (λ h. is_some (holder_of state.operations.tags (field h 41 4))) (sym head)
    ∙ ap (λ t. is_some (holder_of state.operations.tags t)) (sym c.tag_told.ensures)
    ∙ ap is_some (sym c.holder.ensures) ∙ sym c.is_some.ensures ∙ yes)
