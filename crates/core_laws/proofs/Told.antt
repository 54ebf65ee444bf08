-- Flits tell routers their way in every state that stands.
use Rattle.std.proofs.Common.{◌≡◌, ℕ, ◌<◌, true, false, Some, None, refl, ◌∙◌, ap}
use Rattle.std.specs.Prelude.{if◌then◌else◌}
use Rattle.torus.specs.Shape.{IsAccepted, tiles_of, dims_of}
use Rattle.packet.specs.declared.heading.Head.{Head}
use Rattle.packet.specs.Flit.{field, class_numbered}
use Rattle.packet.specs.Flits.{head_of}
use Rattle.channel_number.specs.Ports.{port_count, input_channel}
use Rattle.wormhole.specs.State.{NetState}
use Rattle.wormhole.specs.Words.{Words}
use Rattle.wormhole.specs.Routes.{Routes}
use Rattle.router.specs.Table.{latch_of}
use Rattle.core_laws.specs.Tile.{Design}
use Rattle.core_laws.specs.Core.{State}
use Rattle.core_laws.proofs.Projection.{net_of}
use Rattle.core_laws.proofs.Networks.{network}
use Rattle.core_laws.proofs.Wired.{is_wired_up, head_there}
use Rattle.core_laws.proofs.WiredUp.{IsHeadOf}
use Rattle.core_laws.proofs.Stands.{tile_at, Mirrors}
use Rattle.core_laws.proofs.Wires.{Chooses, FlitsTell}

-- what the head flit tells
abbrev head_in : ℕ → Head
head_in flit = record { destination = field flit 51 6; class = class_numbered (field flit 57 1) }

module _ (d : Design) (s : State) (net : NetState) (accepted : IsAccepted d.shape) (words : Words (net_of d) net) (routes : Routes (net_of d) net)
    (mirrors : Mirrors d s net.lines) where
  heads_tell : (t i flit : ℕ) → t < tiles_of d.shape → i < port_count (dims_of d.shape) → latch_of (tile_at s t).router i ≡ Some flit
      → (net_of d).is_head flit ≡ true → Chooses d t i flit
  unfolding net_of
  heads_tell t i flit here low latched head =
      let wired = is_wired_up d accepted in
      let is : IsHeadOf flit (head_in flit) = record { bit = head; destination = refl; class = refl } in
      let tells = head_there d accepted net (network d accepted) words routes (input_channel d.shape t i) flit (head_in flit) (wired.inputs_lead t i here low)
      (mirrors.latches t i here low ∙ latched) head is in
      let chosen = wired.chosen t i (head_in flit) here low tells.0 tells.1 in
      record {
        head = head_in flit;
        told = ap (λ b. if b then Some (head_in flit) else None) head;
        low = chosen.0;
        is = chosen.1;
      }

  rests_tell : (flit : ℕ) → (net_of d).is_head flit ≡ false → head_of flit ≡ None
  unfolding net_of
  rests_tell flit h = ap (λ b. if b then Some (head_in flit) else None) h

  -- a latched head flit tells its way, and any other none
  pub flits_tell : FlitsTell d s
  flits_tell = record { heads = heads_tell; rests = rests_tell }
