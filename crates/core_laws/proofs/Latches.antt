-- A router takes a flit from an input into its latch: what holds of every reached state is kept.
use Rattle.std.proofs.Common.{◌≡◌, ◌≢◌, ⊎_elim, ℕ, ◌+◌, ◌<◌, List, ◌∷◌, length, Some, None, refl, sym, ◌∙◌, ap, subst, arith}
use Rattle.std.proofs.lemmas.Bool.{cases_eq}
use Rattle.torus.specs.Shape.{tiles_of, dims_of}
use Rattle.one_order.specs.Order.{LinearizationPoint}
use Rattle.channel_number.specs.Order.{channel_count}
use Rattle.flit_buffer.specs.Channel.{rest}
use Rattle.flit_buffer.specs.Places.{take_from_ring}
use Rattle.flit_buffer.specs.Surroundings.{ring}
use Rattle.flit_buffer.proofs.RingLaws.{take_ring}
use Rattle.wormhole.specs.Net.{IsNet}
use Rattle.wormhole.specs.State.{NetLine as Lane, update}
use Rattle.wormhole.specs.Events.{Latch, CanLatch, taken}
use Rattle.wormhole.proofs.Changes.{update_same, update_other}
use Rattle.router.specs.Table.{RouterState, latch_of}
use Rattle.channel_number.specs.Ports.{port_count, input_channel, output_channel}
use Rattle.tile.specs.Tile.{Design}
use Rattle.core_laws.specs.Core.{State}
use Rattle.core_laws.proofs.Projection.{net_of}
use Rattle.core_laws.proofs.ChannelFacts.{channels_of}
use Rattle.core_laws.proofs.WiredUp.{IsWiredUp}
use Rattle.core_laws.proofs.Quiet.{IsQuietStep}
use Rattle.core_laws.proofs.RouterFrame.{router_tile, router_state, router_ghost, IsRouterStep, router_stands}
use Rattle.core_laws.proofs.Stands.{Ghost, Stands, tile_at}

module _ (d : Design) (net : IsNet (net_of d)) (wired : IsWiredUp d) (tags : ℕ) (opening : List ℕ) (s : State) (g : Ghost) (order : List LinearizationPoint)
    (st : Stands d tags opening s g order)
    (t : ℕ) (t_in : t < tiles_of d.shape) (i : ℕ) (i_in : i < port_count (dims_of d.shape)) (flit : ℕ) (more : List ℕ)
    (free : latch_of (tile_at s t).router i ≡ None) (first : (ring s.around.rings (input_channel d.shape t i)).channel.flits ≡ flit ∷ more) where
  abbrev r : RouterState
  r = (tile_at s t).router

  abbrev x : ℕ
  x = input_channel d.shape t i

  abbrev filled : Lane
  filled = record (taken more (g.net.lines x)) { latch = Some flit }

  pub x_in : x < channel_count d.shape
  x_in = wired.inputs_within t i t_in i_in

  abbrev pub latched_state : State
  latched_state = router_state d net wired tags opening s g order st t t_in i i_in (Some flit) r.owned x x_in (take_from_ring d.depth) (Latch x flit more)

  abbrev pub latched_ghost : Ghost
  latched_ghost = router_ghost d net wired tags opening s g order st t t_in i i_in (Some flit) r.owned x x_in (take_from_ring d.depth) (Latch x flit more)

  line_part : {A : Type 0} (h : Lane → A) → h filled ≡ h (g.net.lines x) → (z : ℕ) → h (update g.net.lines x filled z) ≡ h (g.net.lines z)
  line_part h same z = ⊎_elim
      (λ (k : z ≡ x). ap (λ (w : ℕ). h (update g.net.lines x filled w)) k
      ∙ (ap h (update_same g.net.lines x filled) ∙ (same ∙ ap (λ (w : ℕ). h (g.net.lines w)) (sym k))))
      (λ (other : z ≢ x). ap h (update_other g.net.lines x filled z other))
      (cases_eq z x)

  pub can_latch : CanLatch (net_of d) (g.net.lines x) x flit more
  can_latch = record {
    here = subst (λ (k : ℕ). x < k) (sym (channels_of d)) x_in;
    input = wired.inputs_lead t i t_in i_in;
    free = st.mirrors.latches t i t_in i_in ∙ free;
    first = (st.mirrors.rings x x_in).flits ∙ first;
  }

  pub latch_quiet : IsQuietStep d net tags opening s g order st t t_in
      (router_tile d net wired tags opening s g order st t t_in i i_in (Some flit) r.owned x x_in (take_from_ring d.depth) (Latch x flit more)) x x_in
      (take_from_ring d.depth) (Latch x flit more)
  latch_quiet =
      let old = st.mirrors.rings x x_in in
      let here : update g.net.lines x filled x ≡ filled = update_same g.net.lines x filled in
      let some : 0 < length (ring s.around.rings x).channel.flits = subst (λ (fs : List ℕ). 0 < length fs) (sym first) (omega arith) in
      record {
        can = can_latch;
        ring_is = take_ring d.depth (ring s.around.rings x) (st.rings x (subst (λ (k : ℕ). x < k) (sym st.mirrors.count) x_in)) some;
        lane = record {
          flits = ap (λ (l : Lane). l.flits) here ∙ ap rest (sym first);
          held = ap (λ (l : Lane). l.held) here ∙ old.held;
          returning = ap (λ (l : Lane). l.returning) here ∙ ap (λ (k : ℕ). k + 1) old.returning;
        };
        others = λ z other. ap (λ (l : Lane). l.flits) (update_other g.net.lines x filled z other);
        others_held = λ z other. let same = update_other g.net.lines x filled z other in (ap (λ (l : Lane). l.held) same, ap (λ (l : Lane). l.returning) same);
        sent = λ z. refl;
        wholes = λ z ejects. refl;
        operations = refl;
        reported = (refl, refl);
        entries = refl;
        waiting = refl;
        heads = refl;
        phase = st.phases t;
      }

  latch_router : IsRouterStep d net wired tags opening s g order st t t_in i i_in (Some flit) r.owned x x_in (take_from_ring d.depth) (Latch x flit more)
  latch_router =
      let owner : (z : ℕ) → (update g.net.lines x filled z).owner ≡ (g.net.lines z).owner = line_part (λ (l : Lane). l.owner) refl in
      record {
        latched = ap (λ (l : Lane). l.latch) (update_same g.net.lines x filled);
        latches = λ z other. ap (λ (l : Lane). l.latch) (update_other g.net.lines x filled z other);
        rests = line_part (λ (l : Lane). l.rest) refl;
        so_fars = line_part (λ (l : Lane). l.so_far) refl;
        count = refl;
        owners = λ j o j_in o_in. let old = st.mirrors.owners t j o t_in j_in o_in in
            (λ h. old.0 (sym (owner (output_channel d.shape t o)) ∙ h), λ h. owner (output_channel d.shape t o) ∙ old.1 h);
        unowned = λ o o_in none. owner (output_channel d.shape t o) ∙ st.mirrors.unowned t o t_in o_in none;
        outputs = λ j o owns. st.mirrors.outputs t j o t_in owns;
        elsewhere = λ u o apart u_in o_in. owner (output_channel d.shape u o);
      }

  -- What holds of every reached state is kept.
  pub latched_stands : Stands d tags opening latched_state latched_ghost order
  latched_stands = router_stands d net wired tags opening s g order st t t_in i i_in (Some flit) r.owned x x_in (take_from_ring d.depth) (Latch x flit more)
      latch_quiet latch_router
