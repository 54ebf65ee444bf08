-- A step of a router, which changes the latch of one input, what its inputs own, and one channel: a frame for its cases.
use Rattle.std.proofs.Common.{◌≡◌, ◌≢◌, ◌↔◌, ⊎_elim, ℕ, ◌<◌, List, length, Option, Some, None, refl, sym, ◌∙◌, ap, ap₂, subst, slice_set, length-set}
use Rattle.std.proofs.Common.{get_or-set_same, get_or-set_other}
use Rattle.std.proofs.lemmas.Bool.{cases_eq}
use Rattle.torus.specs.Shape.{tiles_of, dims_of}
use Rattle.one_order.specs.Order.{LinearizationPoint}
use Rattle.channel_number.specs.Order.{channel_count}
use Rattle.flit_buffer.specs.Places.{Ring}
use Rattle.wormhole.specs.Net.{IsNet}
use Rattle.wormhole.specs.State.{NetLine as Lane}
use Rattle.wormhole.specs.Events.{NetEvent, after}
use Rattle.router.specs.Table.{RouterState, latch_of, output_owned}
use Rattle.channel_number.specs.Ports.{port_count, input_channel, output_channel}
use Rattle.tile.specs.Tile.{Design, TileState}
use Rattle.core_laws.specs.Core.{State}
use Rattle.core_laws.proofs.Projection.{net_of}
use Rattle.core_laws.proofs.WiredUp.{IsWiredUp}
use Rattle.core_laws.proofs.Quiet.{quiet_state, quiet_ghost, quiet_new, quiet_other, quiet_part, IsQuietStep, quiet_lanes, quiet_stands}
use Rattle.core_laws.proofs.Stands.{Ghost, Stands, Mirrors, tile_at, in_course}

module _ (d : Design) (net : IsNet (net_of d)) (wired : IsWiredUp d) (tags : ℕ) (opening : List ℕ) (s : State) (g : Ghost) (order : List LinearizationPoint)
    (st : Stands d tags opening s g order)
    (t : ℕ) (t_in : t < tiles_of d.shape) (i : ℕ) (i_in : i < port_count (dims_of d.shape)) (latch : Option ℕ) (owned : List (Option ℕ))
    (y : ℕ) (y_in : y < channel_count d.shape) (f : Ring → Ring) (e : NetEvent) where
  abbrev r : RouterState
  r = (tile_at s t).router

  abbrev x : ℕ
  x = input_channel d.shape t i

  -- the router after the step, in its tile
  abbrev pub router_new : RouterState
  router_new = record { latches = slice_set r.latches i latch; owned = owned }

  abbrev pub router_tile : TileState
  router_tile = record (tile_at s t) { router = router_new }

  abbrev pub router_state : State
  router_state = quiet_state d net tags opening s g order st t t_in router_tile y y_in f e

  abbrev pub router_ghost : Ghost
  router_ghost = quiet_ghost d net tags opening s g order st t t_in router_tile y y_in f e

  abbrev lines : ℕ → Lane
  lines = (after (net_of d) g.net e).lines

  -- what is asked of a case: the latch of the input's channel is what it is set to; who owns the router's outputs is what its inputs own; other routers'
  -- outputs, and the ends, are as they were
  pub record IsRouterStep : Type 0 where
    pub latched : (lines x).latch ≡ latch
    pub latches : (z : ℕ) → z ≢ x → (lines z).latch ≡ (g.net.lines z).latch
    pub rests : (z : ℕ) → (lines z).rest ≡ (g.net.lines z).rest
    pub so_fars : (z : ℕ) → (lines z).so_far ≡ (g.net.lines z).so_far
    pub count : length owned ≡ length r.owned
    pub owners : (j o : ℕ) → j < port_count (dims_of d.shape) → o < port_count (dims_of d.shape)
        → ((lines (output_channel d.shape t o)).owner ≡ Some (input_channel d.shape t j)) ↔ (output_owned router_new j ≡ Some o)
    pub unowned : (o : ℕ) → o < port_count (dims_of d.shape) → ((j : ℕ) → output_owned router_new j ≡ Some o → ⊥)
        → (lines (output_channel d.shape t o)).owner ≡ None
    pub outputs : (j o : ℕ) → output_owned router_new j ≡ Some o → o < port_count (dims_of d.shape)
    pub elsewhere : (u o : ℕ) → u ≢ t → u < tiles_of d.shape → o < port_count (dims_of d.shape)
        → (lines (output_channel d.shape u o)).owner ≡ (g.net.lines (output_channel d.shape u o)).owner

  module _ (q : IsQuietStep d net tags opening s g order st t t_in router_tile y y_in f e) (m : IsRouterStep) where
    new : tile_at router_state t ≡ router_tile
    new = quiet_new d net tags opening s g order st t t_in router_tile y y_in f e

    other : (u : ℕ) → u ≢ t → tile_at router_state u ≡ tile_at s u
    other u apart = quiet_other d net tags opening s g order st t t_in router_tile y y_in f e u apart

    part : {A : Type 0} (h : TileState → A) → h router_tile ≡ h (tile_at s t) → (u : ℕ) → h (tile_at router_state u) ≡ h (tile_at s u)
    part h same u = quiet_part d net tags opening s g order st t t_in router_tile y y_in f e h same u

    latches_new : (u j : ℕ) → u < tiles_of d.shape → j < port_count (dims_of d.shape)
        → (lines (input_channel d.shape u j)).latch ≡ latch_of (tile_at router_state u).router j
    latches_new u j u_in j_in = ⊎_elim
        (λ (k : input_channel d.shape u j ≡ x).
        let same = wired.inputs_apart u j t i u_in j_in t_in i_in k in
        let set : latch_of router_new i ≡ latch = get_or-set_same r.latches i latch None (subst (λ (c : ℕ). i < c) (sym (st.mirrors.ports t t_in).0) i_in) in
        ap (λ (z : ℕ). (lines z).latch) k ∙ (m.latched ∙ (sym set ∙ (ap (λ (w : TileState). latch_of w.router i) (sym new)
        ∙ ap₂ (λ (v c : ℕ). latch_of (tile_at router_state v).router c) (sym same.0) (sym same.1)))))
        (λ (apart : input_channel d.shape u j ≢ x).
        m.latches (input_channel d.shape u j) apart ∙ (st.mirrors.latches u j u_in j_in ∙ ⊎_elim
        (λ (k : u ≡ t).
        let elsewhere : j ≢ i = λ c. apart (ap₂ (input_channel d.shape) k c) in
        ap (λ (v : ℕ). latch_of (tile_at s v).router j) k
        ∙ (sym (get_or-set_other r.latches i j latch None elsewhere)
        ∙ (ap (λ (w : TileState). latch_of w.router j) (sym new) ∙ ap (λ (v : ℕ). latch_of (tile_at router_state v).router j) (sym k))))
        (λ (b : u ≢ t). ap (λ (w : TileState). latch_of w.router j) (sym (other u b)))
        (cases_eq u t)))
        (cases_eq (input_channel d.shape u j) x)

    owners_new : (u j o : ℕ) → u < tiles_of d.shape → j < port_count (dims_of d.shape) → o < port_count (dims_of d.shape)
        → ((lines (output_channel d.shape u o)).owner ≡ Some (input_channel d.shape u j)) ↔ (output_owned (tile_at router_state u).router j ≡ Some o)
    owners_new u j o u_in j_in o_in = ⊎_elim
        (λ (k : u ≡ t).
        subst (λ (v : ℕ). ((lines (output_channel d.shape v o)).owner ≡ Some (input_channel d.shape v j))
        ↔ (output_owned (tile_at router_state v).router j ≡ Some o)) (sym k)
        (subst (λ (w : TileState). ((lines (output_channel d.shape t o)).owner ≡ Some (input_channel d.shape t j)) ↔ (output_owned w.router j ≡ Some o))
        (sym new) (m.owners j o j_in o_in)))
        (λ (a : u ≢ t).
        let line = m.elsewhere u o a u_in o_in in
        let old = st.mirrors.owners u j o u_in j_in o_in in
        let tile = other u a in (
          λ h. ap (λ (w : TileState). output_owned w.router j) tile ∙ old.0 (sym line ∙ h),
          λ h. line
              ∙ old.1 (ap (λ (w : TileState). output_owned w.router j) (sym tile) ∙ h),
        ))
        (cases_eq u t)

    unowned_new : (u o : ℕ) → u < tiles_of d.shape → o < port_count (dims_of d.shape) → ((j : ℕ) → output_owned (tile_at router_state u).router j ≡ Some o → ⊥)
        → (lines (output_channel d.shape u o)).owner ≡ None
    unowned_new u o u_in o_in none = ⊎_elim
        (λ (k : u ≡ t).
        ap (λ (v : ℕ). (lines (output_channel d.shape v o)).owner) k
        ∙ m.unowned o o_in (λ j h. none j
        (ap (λ (v : ℕ). output_owned (tile_at router_state v).router j) k ∙ (ap (λ (w : TileState). output_owned w.router j) new ∙ h))))
        (λ (a : u ≢ t).
        m.elsewhere u o a u_in o_in
        ∙ st.mirrors.unowned u o u_in o_in (λ j h. none j (ap (λ (w : TileState). output_owned w.router j) (other u a) ∙ h)))
        (cases_eq u t)

    outputs_new : (u j o : ℕ) → u < tiles_of d.shape → output_owned (tile_at router_state u).router j ≡ Some o → o < port_count (dims_of d.shape)
    outputs_new u j o u_in h = ⊎_elim
        (λ (k : u ≡ t). m.outputs j o
        (sym (ap (λ (w : TileState). output_owned w.router j) new) ∙ (ap (λ (v : ℕ). output_owned (tile_at router_state v).router j) (sym k) ∙ h)))
        (λ (a : u ≢ t). st.mirrors.outputs u j o u_in (ap (λ (w : TileState). output_owned w.router j) (sym (other u a)) ∙ h))
        (cases_eq u t)

    router_mirrors : Mirrors d router_state lines
    router_mirrors = record {
      count = length-set s.around.rings y _ ∙ st.mirrors.count;
      rings = quiet_lanes d net tags opening s g order st t t_in router_tile y y_in f e q;
      ports = λ u h.
          let old = st.mirrors.ports u h in (
            part (λ (w : TileState). length w.router.latches) (length-set r.latches i latch) u ∙ old.0,
            part (λ (w : TileState). length w.router.owned) m.count u ∙ old.1,
          );
      latches = latches_new;
      owners = owners_new;
      unowned = unowned_new;
      outputs = outputs_new;
      sends_requests = λ u h. m.rests _ ∙ (st.mirrors.sends_requests u h ∙ sym (part (λ (w : TileState). w.processor.to_put) refl u));
      sends_replies = λ u h. m.rests _ ∙ (st.mirrors.sends_replies u h ∙ sym (part (λ (w : TileState). in_course w.bank.to_put) refl u));
      takes_replies = λ u h. m.so_fars _ ∙ (st.mirrors.takes_replies u h ∙ sym (part (λ (w : TileState). w.processor.so_far) refl u));
      takes_requests = λ u h. m.so_fars _ ∙ (st.mirrors.takes_requests u h ∙ sym (part (λ (w : TileState). w.bank.so_far) refl u));
    }

    -- What holds of every reached state is kept by a router's step.
    pub router_stands : Stands d tags opening router_state router_ghost order
    router_stands = quiet_stands d net tags opening s g order st t t_in router_tile y y_in f e q router_mirrors
