-- The wiring is as the routers need it.
use Rattle.std.proofs.Common.{◌≡◌, ℕ, ◌<◌, true, false, Some, sym, ◌∙◌, subst}
use Rattle.torus.specs.Shape.{IsAccepted, tiles_of, dims_of}
use Rattle.packet.specs.declared.heading.Head.{Head}
use Rattle.dateline_route.specs.Next.{next_of}
use Rattle.wormhole.specs.Net.{IsNet}
use Rattle.wormhole.specs.State.{NetState}
use Rattle.wormhole.specs.Words.{Words}
use Rattle.wormhole.specs.Routes.{Routes}
use Rattle.wormhole.proofs.Arrivals.{is_routed}
use Rattle.channel_number.proofs.Ports.{is_input, is_output, inputs_apart, outputs_apart}
use Rattle.dateline_route.proofs.First.{chosen_inside}
use Rattle.channel_number.proofs.Leading.{output_within}
use Rattle.core_laws.proofs.Heads.{chosen_is, head_tells}
use Rattle.channel_number.specs.Ports.{input_numbered}
use Rattle.tile.specs.Tile.{Design}
use Rattle.core_laws.proofs.Projection.{net_of}
use Rattle.channel_number.specs.Order.{channel_at}
use Rattle.core_laws.proofs.WiredUp.{IsWiredUp, IsHeadOf}

pub is_wired_up : (d : Design) → IsAccepted d.shape → IsWiredUp d
unfolding net_of
is_wired_up d h = record {
  inputs_within = λ t i low small. (is_input d.shape h t i low small).below;
  outputs_within = λ t o low small. (is_output d.shape t o low small).below;
  inputs_apart = λ t i u j low small high little e. inputs_apart d.shape h t i u j low small high little e;
  outputs_apart = λ t o u p low small high little e. outputs_apart d.shape t o u p low small high little e;
  inputs_lead = λ t i low small. (is_input d.shape h t i low small).leads;
  chosen = λ t i head low small there own. (
    output_within d.shape head.class (next_of d.shape t (input_numbered (dims_of d.shape) i) head.destination)
        (chosen_inside d.shape t (input_numbered (dims_of d.shape) i) head.destination),
    sym (chosen_is d.shape d.depth t i head.destination head.class h low small there own),
  );
}

-- a latched head flit tells a tile of the machine, and its channel's class
pub head_there : (d : Design) → IsAccepted d.shape → (st : NetState) → IsNet (net_of d) → Words (net_of d) st → Routes (net_of d) st
    → (x flit : ℕ) (head : Head)
    → (net_of d).ejects x ≡ false → (st.lines x).latch ≡ Some flit → (net_of d).is_head flit ≡ true → IsHeadOf flit head
    → (head.destination < tiles_of d.shape) × ((channel_at d.shape x).class ≡ head.class)
unfolding net_of
head_there d h st net w r x flit head input full bit is =
    let tells = head_tells d.shape d.depth st x flit h (is_routed (net_of d) st x flit net w r input full bit) in
    (subst (λ t. t < tiles_of d.shape) (sym is.destination) tells.0, tells.1 ∙ sym is.class)
