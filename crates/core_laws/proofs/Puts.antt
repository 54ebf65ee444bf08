-- A router puts a head flit: what holds of every reached state is kept.
use Rattle.std.proofs.Common.{◌≡◌, ◌≢◌, ℕ, ◌-◌, ◌<◌, false, List, [], ◌∷◌, ◌++◌, Option, Some, None, refl, sym, ◌∙◌, ap, ap₂, subst}
use Rattle.std.proofs.Common.{slice_set, length-set, if◌then◌else◌, drop}
use Rattle.std.specs.Prelude.{take, drop}
use Rattle.torus.specs.Shape.{tiles_of, dims_of}
use Rattle.packet.specs.declared.heading.Head.{Head}
use Rattle.packet.specs.Flit.{field, class_numbered}
use Rattle.channel_number.specs.Order.{channel_count, channel_at}
use Rattle.one_order.specs.Order.{LinearizationPoint}
use Rattle.flit_buffer.specs.Places.{put_in_ring}
use Rattle.flit_buffer.specs.Surroundings.{ring}
use Rattle.flit_buffer.proofs.RingLaws.{put_ring}
use Rattle.wormhole.specs.Net.{Net, IsNet}
use Rattle.wormhole.specs.State.{NetLine as Lane, Note}
use Rattle.wormhole.specs.Events.{ForwardHead, CanForwardHead, first_tail}
use Rattle.wormhole.proofs.RouteSteps.{has_way}
use Rattle.wormhole.proofs.Receivers.{moved}
use Rattle.wormhole.proofs.Routers.{latched}
use Rattle.packet.specs.Flits.{is_tail, head_of}
use Rattle.router.specs.Table.{RouterState, latch_of, output_owned, is_owned, way_of}
use Rattle.channel_number.specs.Ports.{port_count, ejection_channel, input_channel, output_channel}
use Rattle.tile.specs.Tile.{Design}
use Rattle.core_laws.specs.Core.{State}
use Rattle.core_laws.proofs.Projection.{net_of}
use Rattle.core_laws.proofs.ChannelFacts.{channels_of, is_head_of}
use Rattle.core_laws.proofs.Stands.{Ghost, Stands, tile_at}
use Rattle.core_laws.proofs.WiredUp.{IsWiredUp, not_owned, IsHeadOf, head_told, owner_after}
use Rattle.core_laws.proofs.Quiet.{IsQuietStep}
use Rattle.core_laws.proofs.Forwards.{Put, at_x, at_y, line_but, line_other, line_kept, sent_kept, wholes_kept, owners_new, unowned_new, outputs_new}
use Rattle.core_laws.proofs.RouterFrame.{router_tile, router_state, router_ghost, IsRouterStep, router_stands}

told_of : (d : Design) (flit : ℕ) → (net_of d).told flit ≡ ejection_channel d.shape (field flit 51 6) (class_numbered (field flit 57 1))
unfolding net_of
told_of d flit = refl

module _ (d : Design) (net : IsNet (net_of d)) (wired : IsWiredUp d) (tags : ℕ) (opening : List ℕ) (s : State) (g : Ghost) (order : List LinearizationPoint)
    (st : Stands d tags opening s g order)
    (t : ℕ) (t_in : t < tiles_of d.shape) (i : ℕ) (i_in : i < port_count (dims_of d.shape)) (flit : ℕ) (head : Head)
    (full : latch_of (tile_at s t).router i ≡ Some flit) (is : head_of flit ≡ Some head) (there : head.destination < tiles_of d.shape)
    (class : (channel_at d.shape (input_channel d.shape t i)).class ≡ head.class)
    (free : is_owned (tile_at s t).router (way_of d.shape t i head) ≡ false)
    (credit : 0 < (ring s.around.rings (output_channel d.shape t (way_of d.shape t i head))).channel.held) where
  abbrev n : Net
  n = net_of d

  abbrev o : ℕ
  o = way_of d.shape t i head

  abbrev x : ℕ
  x = input_channel d.shape t i

  abbrev y : ℕ
  y = output_channel d.shape t o

  abbrev r : RouterState
  r = (tile_at s t).router

  abbrev left : List (Option ℕ)
  left = slice_set r.owned i (if is_tail flit then None else Some o)

  told : IsHeadOf flit head
  told = head_told flit head is

  way : (o < port_count (dims_of d.shape)) × (y ≡ n.next x (ejection_channel d.shape head.destination head.class))
  way = wired.chosen t i head t_in i_in there class

  pub y_in : y < channel_count d.shape
  y_in = wired.outputs_within t o t_in way.0

  abbrev pub put_state : State
  put_state = router_state d net wired tags opening s g order st t t_in i i_in None left y y_in (put_in_ring flit) (ForwardHead x y flit)

  abbrev pub put_ghost : Ghost
  put_ghost = router_ghost d net wired tags opening s g order st t t_in i i_in None left y y_in (put_in_ring flit) (ForwardHead x y flit)

  pub can_forward : CanForwardHead n (g.net.lines x) (g.net.lines y) x y flit
  can_forward = record {
    here = subst (λ (m : ℕ). x < m) (sym (channels_of d)) (wired.inputs_within t i t_in i_in);
    input = wired.inputs_lead t i t_in i_in;
    full = st.mirrors.latches t i t_in i_in ∙ full;
    head = is_head_of d flit ∙ told.bit;
    output = way.1 ∙ ap (n.next x) (ap₂ (ejection_channel d.shape) told.destination told.class ∙ sym (told_of d flit));
    free = st.mirrors.unowned t o t_in way.0 (not_owned r o free);
    credit = subst (λ (m : ℕ). 0 < m) (sym (st.mirrors.rings y y_in).held) credit;
  }

  apart : x ≢ y
  apart = (has_way n g.net x y flit net st.lines st.routes can_forward).apart

  -- the input owned nothing
  owned_none : (z : ℕ) → (g.net.lines z).owner ≡ Some x → ⊥
  owned_none z h =
      let m = moved n (g.net.notes x) flit ((g.net.lines x).flits ++ (g.net.notes x).owed) (st.lines.parcels x) (st.lines.awaited x) can_forward.head
      (latched n g.net x flit st.lines can_forward.full) in
      (st.lines.held x z h).more m.none

  abbrev forward : Put d tags opening s g order
  forward = record {
    wired = wired;
    st = st;
    t = t;
    t_in = t_in;
    i = i;
    i_in = i_in;
    flit = flit;
    o = o;
    o_in = way.0;
    apart = apart;
  }

  abbrev note_x : Note
  note_x = record (g.net.notes x) { parcels = drop 1 (g.net.notes x).parcels; awaited = first_tail (g.net.notes x).parcels }

  abbrev note_y : Note
  note_y = record (g.net.notes y) { parcels = (g.net.notes y).parcels ++ take 1 (g.net.notes x).parcels; owed = first_tail (g.net.notes x).parcels }

  put_quiet : flit ≢ 0 → IsQuietStep d net tags opening s g order st t t_in
      (router_tile d net wired tags opening s g order st t t_in i i_in None left y y_in (put_in_ring flit) (ForwardHead x y flit)) y y_in (put_in_ring flit)
      (ForwardHead x y flit)
  put_quiet some =
      let old = st.mirrors.rings y y_in in
      record {
        can = can_forward;
        ring_is = put_ring d.depth (ring s.around.rings y) (st.rings y (subst (λ (k : ℕ). y < k) (sym st.mirrors.count) y_in)) flit some credit;
        lane = record {
          flits = ap (λ (l : Lane). l.flits) (at_y forward) ∙ ap (λ (fs : List ℕ). fs ++ flit ∷ []) old.flits;
          held = ap (λ (l : Lane). l.held) (at_y forward) ∙ ap (λ (m : ℕ). m - 1) old.held;
          returning = ap (λ (l : Lane). l.returning) (at_y forward) ∙ old.returning;
        };
        others = line_but forward (λ (l : Lane). l.flits) refl;
        others_held = λ z b. (line_but forward (λ (l : Lane). l.held) refl z b, line_but forward (λ (l : Lane). l.returning) refl z b);
        sent = sent_kept forward note_x note_y refl refl;
        wholes = wholes_kept forward note_x note_y can_forward.input refl refl;
        operations = refl;
        reported = (refl, refl);
        entries = refl;
        waiting = refl;
        heads = refl;
        phase = st.phases t;
      }

  alone : (j : ℕ) → j < port_count (dims_of d.shape) → j ≢ i → output_owned r j ≡ Some o → ⊥
  alone j j_in other h = not_owned r o free j h

  only : (p : ℕ) → p < port_count (dims_of d.shape) → p ≢ o → (g.net.lines (output_channel d.shape t p)).owner ≡ Some x → ⊥
  only p p_in other h = owned_none (output_channel d.shape t p) h

  put_router : IsRouterStep d net wired tags opening s g order st t t_in i i_in None left y y_in (put_in_ring flit) (ForwardHead x y flit)
  put_router = record {
    latched = ap (λ (l : Lane). l.latch) (at_x forward);
    latches = line_other forward (λ (l : Lane). l.latch) refl;
    rests = line_kept forward (λ (l : Lane). l.rest) refl refl;
    so_fars = line_kept forward (λ (l : Lane). l.so_far) refl refl;
    count = length-set r.owned i (owner_after (is_tail flit) o);
    owners = owners_new forward alone only;
    unowned = unowned_new forward alone only;
    outputs = outputs_new forward alone only;
    elsewhere = λ u p a u_in p_in. line_but forward (λ (l : Lane). l.owner) refl (output_channel d.shape u p)
        (λ h. a (wired.outputs_apart u p t o u_in p_in t_in way.0 h).0);
  }

  -- What holds of every reached state is kept.
  pub put_stands : flit ≢ 0 → Stands d tags opening put_state put_ghost order
  put_stands some = router_stands d net wired tags opening s g order st t t_in i i_in None left y y_in (put_in_ring flit) (ForwardHead x y flit)
      (put_quiet some) put_router
