-- A router puts a body or tail flit: what holds of every reached state is kept.
use Rattle.std.proofs.Common.{◌≡◌, ◌≢◌, ℕ, ◌-◌, ◌<◌, false, List, [], ◌∷◌, ◌++◌, drop, Option, Some, None, refl, sym, ◌∙◌, ap}
use Rattle.std.proofs.Common.{subst, slice_set, length-set, if◌then◌else◌}
use Rattle.std.proofs.lemmas.Option.{same_Some}
use Rattle.torus.specs.Shape.{tiles_of, dims_of}
use Rattle.one_order.specs.Order.{LinearizationPoint}
use Rattle.channel_number.specs.Order.{channel_count}
use Rattle.flit_buffer.specs.Places.{put_in_ring}
use Rattle.flit_buffer.specs.Surroundings.{ring}
use Rattle.flit_buffer.proofs.RingLaws.{put_ring}
use Rattle.wormhole.specs.Net.{Net, IsNet}
use Rattle.wormhole.specs.State.{NetLine as Lane, Note}
use Rattle.wormhole.specs.Events.{ForwardRest, CanForwardRest}
use Rattle.wormhole.proofs.Ways.{apart_by_number}
use Rattle.packet.specs.Flits.{is_tail}
use Rattle.core_laws.specs.Heads.{carries_route}
use Rattle.router.specs.Table.{RouterState, latch_of, output_owned}
use Rattle.channel_number.specs.Ports.{port_count, input_channel, output_channel}
use Rattle.tile.specs.Tile.{Design}
use Rattle.core_laws.specs.Core.{State}
use Rattle.core_laws.proofs.Projection.{net_of}
use Rattle.core_laws.proofs.ChannelFacts.{channels_of, is_head_of}
use Rattle.core_laws.proofs.WiredUp.{IsWiredUp, owner_after}
use Rattle.core_laws.proofs.Quiet.{IsQuietStep}
use Rattle.core_laws.proofs.Forwards.{Put, at_x, at_y, line_but, line_other, line_kept, sent_kept, wholes_kept, owners_new, unowned_new, outputs_new}
use Rattle.core_laws.proofs.RouterFrame.{router_tile, router_state, router_ghost, IsRouterStep, router_stands}
use Rattle.core_laws.proofs.Stands.{Ghost, Stands, tile_at}

module _ (d : Design) (net : IsNet (net_of d)) (wired : IsWiredUp d) (tags : ℕ) (opening : List ℕ) (s : State) (g : Ghost) (order : List LinearizationPoint)
    (st : Stands d tags opening s g order)
    (t : ℕ) (t_in : t < tiles_of d.shape) (i : ℕ) (i_in : i < port_count (dims_of d.shape)) (flit o : ℕ)
    (full : latch_of (tile_at s t).router i ≡ Some flit) (rest : carries_route flit ≡ false) (owns : output_owned (tile_at s t).router i ≡ Some o)
    (credit : 0 < (ring s.around.rings (output_channel d.shape t o)).channel.held) (some : flit ≢ 0) where
  abbrev n : Net
  n = net_of d

  abbrev r : RouterState
  r = (tile_at s t).router

  abbrev x : ℕ
  x = input_channel d.shape t i

  abbrev y : ℕ
  y = output_channel d.shape t o

  abbrev left : List (Option ℕ)
  left = slice_set r.owned i (if is_tail flit then None else Some o)

  o_in : o < port_count (dims_of d.shape)
  o_in = st.mirrors.outputs t i o t_in owns

  pub y_in : y < channel_count d.shape
  y_in = wired.outputs_within t o t_in o_in

  abbrev pub rest_state : State
  rest_state = router_state d net wired tags opening s g order st t t_in i i_in None left y y_in (put_in_ring flit) (ForwardRest x y flit)

  abbrev pub rest_ghost : Ghost
  rest_ghost = router_ghost d net wired tags opening s g order st t t_in i i_in None left y y_in (put_in_ring flit) (ForwardRest x y flit)

  owner_was : (g.net.lines y).owner ≡ Some x
  owner_was = (st.mirrors.owners t i o t_in i_in o_in).1 owns

  pub can_forward : CanForwardRest n (g.net.lines x) (g.net.lines y) x y flit
  can_forward = record {
    here = subst (λ (m : ℕ). x < m) (sym (channels_of d)) (wired.inputs_within t i t_in i_in);
    input = wired.inputs_lead t i t_in i_in;
    full = st.mirrors.latches t i t_in i_in ∙ full;
    rest = is_head_of d flit ∙ rest;
    owned = owner_was;
    credit = subst (λ (m : ℕ). 0 < m) (sym (st.mirrors.rings y y_in).held) credit;
  }

  apart : x ≢ y
  apart = apart_by_number n x y (st.routes.rising x y owner_was)

  abbrev forward : Put d tags opening s g order
  forward = record {
    wired = wired;
    st = st;
    t = t;
    t_in = t_in;
    i = i;
    i_in = i_in;
    flit = flit;
    o = o;
    o_in = o_in;
    apart = apart;
  }

  abbrev note_x : Note
  note_x = record (g.net.notes x) { awaited = drop 1 (g.net.notes x).awaited }

  abbrev note_y : Note
  note_y = record (g.net.notes y) { owed = drop 1 (g.net.notes y).owed }

  pub rest_quiet : IsQuietStep d net tags opening s g order st t t_in
      (router_tile d net wired tags opening s g order st t t_in i i_in None left y y_in (put_in_ring flit) (ForwardRest x y flit)) y y_in (put_in_ring flit)
      (ForwardRest x y flit)
  rest_quiet =
      let old = st.mirrors.rings y y_in in
      record {
        can = can_forward;
        ring_is = put_ring d.depth (ring s.around.rings y) (st.rings y (subst (λ (k : ℕ). y < k) (sym st.mirrors.count) y_in)) flit some credit;
        lane = record {
          flits = ap (λ (l : Lane). l.flits) (at_y forward) ∙ ap (λ (fs : List ℕ). fs ++ flit ∷ []) old.flits;
          held = ap (λ (l : Lane). l.held) (at_y forward) ∙ ap (λ (m : ℕ). m - 1) old.held;
          returning = ap (λ (l : Lane). l.returning) (at_y forward) ∙ old.returning;
        };
        others = line_but forward (λ (l : Lane). l.flits) refl;
        others_held = λ z b. (line_but forward (λ (l : Lane). l.held) refl z b, line_but forward (λ (l : Lane). l.returning) refl z b);
        sent = sent_kept forward note_x note_y refl refl;
        wholes = wholes_kept forward note_x note_y can_forward.input refl refl;
        operations = refl;
        reported = (refl, refl);
        entries = refl;
        waiting = refl;
        heads = refl;
        phase = st.phases t;
      }

  alone : (j : ℕ) → j < port_count (dims_of d.shape) → j ≢ i → output_owned r j ≡ Some o → ⊥
  alone j j_in other h = other (sym (wired.inputs_apart t i t j t_in i_in t_in j_in
      (same_Some x (input_channel d.shape t j) (sym owner_was ∙ (st.mirrors.owners t j o t_in j_in o_in).1 h))).1)

  only : (p : ℕ) → p < port_count (dims_of d.shape) → p ≢ o → (g.net.lines (output_channel d.shape t p)).owner ≡ Some x → ⊥
  only p p_in other h = other (wired.outputs_apart t p t o t_in p_in t_in o_in (st.lines.single x (output_channel d.shape t p) y h owner_was)).1

  rest_router : IsRouterStep d net wired tags opening s g order st t t_in i i_in None left y y_in (put_in_ring flit) (ForwardRest x y flit)
  rest_router = record {
    latched = ap (λ (l : Lane). l.latch) (at_x forward);
    latches = line_other forward (λ (l : Lane). l.latch) refl;
    rests = line_kept forward (λ (l : Lane). l.rest) refl refl;
    so_fars = line_kept forward (λ (l : Lane). l.so_far) refl refl;
    count = length-set r.owned i (owner_after (is_tail flit) o);
    owners = owners_new forward alone only;
    unowned = unowned_new forward alone only;
    outputs = outputs_new forward alone only;
    elsewhere = λ u p a u_in p_in. line_but forward (λ (l : Lane). l.owner) refl (output_channel d.shape u p)
        (λ h. a (wired.outputs_apart u p t o u_in p_in t_in o_in h).0);
  }

  -- What holds of every reached state is kept.
  pub rest_stands : Stands d tags opening rest_state rest_ghost order
  rest_stands = router_stands d net wired tags opening s g order st t t_in i i_in None left y y_in (put_in_ring flit) (ForwardRest x y flit) rest_quiet
      rest_router
