use Rattle.std.proofs.Common.{◌≡◌, ◌<◌, Option, Some, sym, ◌∙◌, ap, subst, vec_len}
use Rattle.std.specs.Prelude.{option_and_then}
use Rattle.std.specs.Option.{IfSome}
use Rattle.flit_buffer.specs.Wants.{PortEnds, want_op}
use Rattle.flit_buffer.specs.Words.{word_of}
use Rattle.flit_buffer.specs.declared.want.Want.{Want}
use Rattle.one_order.specs.ProcessorTable.{processor_wants}
use Rattle.net_interface.specs.Place.{ProcessorPlace}
use Rattle.net_interface.proofs.processor.Processor.would_move.Goals as goal

pub would_grant-requires-clause-room : goal.would_grant-requires-clause-room
would_grant-requires-clause-room g c =
    let now : ProcessorPlace = c.args.self.now in
    let ports : now.agent.ports ≡ c.self.inside.ports = ap (λ (p : ProcessorPlace). p.agent.ports) (sym c.self.view_is) in
    let wanted : processor_wants now.tiles now.words now.tile now.agent.state c.args.choice ≡ Some c.in-Some.want = sym c.wants.ensures.value ∙ c.in-Some.is in
    subst (λ (p : PortEnds). IfSome (want_op p c.in-Some.want) (λ o. word_of o < vec_len c.args.row.now)) ports
    (subst (λ (x : Option Want). IfSome (option_and_then (λ want. want_op now.agent.ports want) x) (λ o. word_of o < vec_len c.args.row.now)) wanted
    c.requires.room)
