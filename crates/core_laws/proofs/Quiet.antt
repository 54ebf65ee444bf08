-- A step that shows nothing new, and changes one channel: a frame for its cases; and the credits of all agents.
use Rattle.std.proofs.Common.{◌≡◌, ◌≢◌, ⊎_elim, ℕ, ◌+◌, ◌-◌, ◌<◌, Bool, true, cond, List, [], ◌++◌, map, length, Some, refl, sym, ◌∙◌, ap, ap₂, subst}
use Rattle.std.proofs.Common.{slice_get, slice_set, length-set, get_or-set_same, get_or-set_other}
use Rattle.std.proofs.lemmas.Bool.{cases_eq}
use Rattle.std.proofs.lemmas.Option.{slice_get-get_or}
use Rattle.torus.specs.Shape.{tiles_of}
use Rattle.torus.specs.declared.shape.Class.TheVariants.{Request, Reply}
use Rattle.one_order.specs.Following.{is_finished}
use Rattle.one_order.specs.Order.{LinearizationPoint}
use Rattle.channel_number.specs.Order.{channel_count}
use Rattle.flit_buffer.specs.Places.{Ring, IsRing, credit_of_ring}
use Rattle.flit_buffer.specs.Surroundings.{ring, changed, AreRings}
use Rattle.flit_buffer.proofs.RingLaws.{credit_ring}
use Rattle.flit_buffer.proofs.ManyRings.{changed_here, changed_other}
use Rattle.wormhole.specs.Net.{Net, IsNet, Parcel}
use Rattle.wormhole.specs.State.{NetLine as Lane}
use Rattle.wormhole.specs.Events.{NetEvent, Return, CanHappen, after}
use Rattle.wormhole.specs.Delivery.{whole}
use Rattle.wormhole.proofs.Changes.{update_same, update_other}
use Rattle.wormhole.proofs.Reached.{words_kept, routes_kept}
use Rattle.one_order.specs.ProcessorRecord.{ProcessorRecord, no_processor}
use Rattle.one_order.specs.Flight.{Flight}
use Rattle.one_order.proofs.Whole.{Whole}
use Rattle.core_laws.specs.Heads.{carries_route}
use Rattle.router.specs.Table.{RouterState, output_owned}
use Rattle.channel_number.specs.Ports.{injection_channel, ejection_channel}
use Rattle.tile.specs.Tile.{Design, TileState}
use Rattle.core_laws.specs.Core.{State}
use Rattle.core_laws.proofs.Projection.{net_of, first_flit, response_parcel}
use Rattle.core_laws.proofs.ChannelFacts.{channels_of, ejects_at}
use Rattle.core_laws.proofs.FlightSteps.{record_in, entries_in, same_flight, part_stays}
use Rattle.core_laws.proofs.SendFacts.{count_set}
use Rattle.core_laws.specs.Delivery.{notice_by}
use Rattle.core_laws.proofs.Stands.{Ghost, Stands, Mirrors, Carries, Reported, IsLane, IsInPhase, tile_at, no_tile, flight_of, responses_from, last_of}
use Rattle.core_laws.proofs.Stands.{in_course}

module _ (d : Design) (net : IsNet (net_of d)) (tags : ℕ) (opening : List ℕ) (s : State) (g : Ghost) (order : List LinearizationPoint)
    (st : Stands d tags opening s g order)
    (t : ℕ) (t_in : t < tiles_of d.shape) (new_tile : TileState) (x : ℕ) (x_in : x < channel_count d.shape) (f : Ring → Ring) (e : NetEvent) where
  abbrev n : Net
  n = net_of d

  -- the state after, and what is noted
  abbrev pub quiet_state : State
  quiet_state = record { tiles = slice_set s.tiles t new_tile; around = changed s.around x f }

  abbrev pub quiet_ghost : Ghost
  quiet_ghost = record g { net = after n g.net e }

  tile_in : t < length s.tiles
  tile_in = subst (λ (k : ℕ). t < k) (sym st.tiles) t_in

  pub quiet_new : tile_at quiet_state t ≡ new_tile
  quiet_new = get_or-set_same s.tiles t new_tile no_tile tile_in

  pub quiet_other : (u : ℕ) → u ≢ t → tile_at quiet_state u ≡ tile_at s u
  quiet_other u other = get_or-set_other s.tiles t u new_tile no_tile other

  pub quiet_part : {A : Type 0} (h : TileState → A) → h new_tile ≡ h (tile_at s t) → (u : ℕ) → h (tile_at quiet_state u) ≡ h (tile_at s u)
  quiet_part h same u = ⊎_elim
      (λ (k : u ≡ t). ap (λ (v : ℕ). h (tile_at quiet_state v)) k ∙ (ap h quiet_new ∙ (same ∙ ap (λ (v : ℕ). h (tile_at s v)) (sym k))))
      (λ (other : u ≢ t). ap h (quiet_other u other))
      (cases_eq u t)

  x_here : x < length s.around.rings
  x_here = subst (λ (k : ℕ). x < k) (sym st.mirrors.count) x_in

  -- what is asked of a case: the event may happen, the channel is its line's; the network's ends and the tile's records are as they were
  pub record IsQuietStep : Type 0 where
    pub can : CanHappen n g.net.lines e
    pub ring_is : IsRing d.depth (f (ring s.around.rings x))
    pub lane : IsLane (f (ring s.around.rings x)).channel (quiet_ghost.net.lines x)
    pub others : (z : ℕ) → z ≢ x → (quiet_ghost.net.lines z).flits ≡ (g.net.lines z).flits
    pub others_held : (z : ℕ) → z ≢ x
        → ((quiet_ghost.net.lines z).held ≡ (g.net.lines z).held) × ((quiet_ghost.net.lines z).returning ≡ (g.net.lines z).returning)
    pub sent : (z : ℕ) → (quiet_ghost.net.notes z).sent ≡ (g.net.notes z).sent
    pub wholes : (z : ℕ) → n.ejects z ≡ true → whole quiet_ghost.net z ≡ whole g.net z
    pub operations : new_tile.processor.operations ≡ (tile_at s t).processor.operations
    pub reported : (new_tile.processor.reported ≡ (tile_at s t).processor.reported) × (new_tile.processor.seen ≡ (tile_at s t).processor.seen)
    pub entries : new_tile.bank.entries ≡ (tile_at s t).bank.entries
    pub waiting : new_tile.bank.waiting ≡ (tile_at s t).bank.waiting
    pub heads : carries_route (first_flit new_tile.bank.to_put) ≡ carries_route (first_flit (tile_at s t).bank.to_put)
    pub phase : IsInPhase t new_tile.bank

  module _ (q : IsQuietStep) where
    pub quiet_lanes : (z : ℕ) → z < channel_count d.shape → IsLane (ring quiet_state.around.rings z).channel (quiet_ghost.net.lines z)
    quiet_lanes z within = ⊎_elim
        (λ (k : z ≡ x). subst (λ (w : ℕ). IsLane (ring quiet_state.around.rings w).channel (quiet_ghost.net.lines w)) (sym k)
        (subst (λ (c : Ring). IsLane c.channel (quiet_ghost.net.lines x)) (sym (changed_here s.around x f x_here)) q.lane))
        (λ (other : z ≢ x).
        let old = st.mirrors.rings z within in
        let same : ring quiet_state.around.rings z ≡ ring s.around.rings z = changed_other s.around x f z other in
        record {
          flits = q.others z other ∙ (old.flits ∙ ap (λ (c : Ring). c.channel.flits) (sym same));
          held = (q.others_held z other).0 ∙ (old.held ∙ ap (λ (c : Ring). c.channel.held) (sym same));
          returning = (q.others_held z other).1 ∙ (old.returning ∙ ap (λ (c : Ring). c.channel.returning) (sym same));
        })
        (cases_eq z x)

    -- a step of an end leaves the routers
    pub record IsEndStep : Type 0 where
      pub router : new_tile.router ≡ (tile_at s t).router
      pub latches : (z : ℕ) → (quiet_ghost.net.lines z).latch ≡ (g.net.lines z).latch
      pub owners : (z : ℕ) → (quiet_ghost.net.lines z).owner ≡ (g.net.lines z).owner
      pub requests : (u : ℕ) → u < tiles_of d.shape
          → (quiet_ghost.net.lines (injection_channel d.shape u Request)).rest ≡ (tile_at quiet_state u).processor.to_put
      pub replies : (u : ℕ) → u < tiles_of d.shape
          → (quiet_ghost.net.lines (injection_channel d.shape u Reply)).rest ≡ in_course (tile_at quiet_state u).bank.to_put
      pub replies_in : (u : ℕ) → u < tiles_of d.shape
          → (quiet_ghost.net.lines (ejection_channel d.shape u Reply)).so_far ≡ (tile_at quiet_state u).processor.so_far
      pub requests_in : (u : ℕ) → u < tiles_of d.shape
          → (quiet_ghost.net.lines (ejection_channel d.shape u Request)).so_far ≡ (tile_at quiet_state u).bank.so_far

    pub end_mirrors : IsEndStep → Mirrors d quiet_state quiet_ghost.net.lines
    end_mirrors i = record {
      count = length-set s.around.rings x _ ∙ st.mirrors.count;
      rings = quiet_lanes;
      ports = λ u h. let k = quiet_part (λ (w : TileState). w.router) i.router u in rw k (st.mirrors.ports u h);
      latches = λ u j h l. let k = quiet_part (λ (w : TileState). w.router) i.router u in rw k (i.latches _ ∙ st.mirrors.latches u j h l);
      owners = λ u j o h l m. let k = quiet_part (λ (w : TileState). w.router) i.router u in rw (k, i.owners _) (st.mirrors.owners u j o h l m);
      unowned = λ u o h l none. let k = quiet_part (λ (w : TileState). w.router) i.router u in
          i.owners _ ∙ st.mirrors.unowned u o h l (λ j owns. none j (ap (λ (r : RouterState). output_owned r j) k ∙ owns));
      outputs = λ u j o h owns. let k = quiet_part (λ (w : TileState). w.router) i.router u in
          st.mirrors.outputs u j o h (ap (λ (r : RouterState). output_owned r j) (sym k) ∙ owns);
      sends_requests = i.requests;
      sends_replies = i.replies;
      takes_replies = i.replies_in;
      takes_requests = i.requests_in;
    }

    tile_there : slice_get s.tiles t ≡ Some (tile_at s t)
    tile_there = slice_get-get_or s.tiles t no_tile tile_in

    quiet_flight : flight_of d.words quiet_state quiet_ghost ≡ flight_of d.words s g
    quiet_flight = same_flight _ _ _ _ _ _ g.asked g.told (part_stays record_in no_processor s.tiles t (tile_at s t) new_tile tile_there q.operations)
        (part_stays entries_in [] s.tiles t (tile_at s t) new_tile tile_there q.entries) refl

    quiet_carries : Carries d quiet_state quiet_ghost
    quiet_carries = record {
      processors = st.carries.processors;
      takers = st.carries.takers;
      requests_sent = λ u h. q.sent _ ∙ st.carries.requests_sent u h;
      requests_proper = st.carries.requests_proper;
      requests_whole = λ b h. let k = quiet_part (λ (w : TileState). w.bank.entries) q.entries b in
          let l = quiet_part (λ (w : TileState). w.bank.waiting) q.waiting b in rw (k, l) (q.wholes _ (ejects_at d b Request) ∙ st.carries.requests_whole b h);
      waiting_proper = λ b r waits. st.carries.waiting_proper b r (sym (quiet_part (λ (w : TileState). w.bank.waiting) q.waiting b) ∙ waits);
      asked = λ p b h l. let k = quiet_part (λ (w : TileState). w.bank.entries) q.entries b in rw k (st.carries.asked p b h l);
      replies_sent = λ b h.
          let k = quiet_part (λ (w : TileState). w.bank.entries) q.entries b in
          let l = quiet_part (λ (w : TileState). carries_route (first_flit w.bank.to_put)) q.heads b in
          rw k (st.carries.replies_sent b h
          ∙ ap₂ (λ (ks : List Parcel) (i : Bool). ks
          ++ map (response_parcel d.shape) (cond i (last_of (responses_from b 0 (tile_at s b).bank.entries)) []))
          (sym (q.sent (injection_channel d.shape b Reply))) (sym l));
      replies_proper = λ b h. let k = quiet_part (λ (w : TileState). w.bank.entries) q.entries b in rw k (st.carries.replies_proper b h);
      replies_whole = λ p h. q.wholes _ (ejects_at d p Reply) ∙ st.carries.replies_whole p h;
      told = λ b p h l. let k = quiet_part (λ (w : TileState). w.bank.entries) q.entries b in rw k (st.carries.told b p h l);
      issued = λ p. st.carries.issued p ∙ sym (ap (λ (b : ProcessorRecord). b.issued) (quiet_part (λ (w : TileState). w.processor.operations) q.operations p));
      answered = λ p. ap (λ (b : ProcessorRecord). map (notice_by p) b.answers) (quiet_part (λ (w : TileState). w.processor.operations) q.operations p)
          ∙ st.carries.answered p;
    }

    quiet_phases : (u : ℕ) → IsInPhase u (tile_at quiet_state u).bank
    quiet_phases u = ⊎_elim
        (λ (k : u ≡ t). subst (λ (v : ℕ). IsInPhase v (tile_at quiet_state v).bank) (sym k)
        (subst (λ (w : TileState). IsInPhase t w.bank) (sym quiet_new) q.phase))
        (λ (other : u ≢ t). subst (λ (w : TileState). IsInPhase u w.bank) (sym (quiet_other u other)) (st.phases u))
        (cases_eq u t)

    quiet_reported : Reported d quiet_state
    quiet_reported = record {
      counts = st.reported.counts ∙ sym (count_set (λ (w : TileState). w.processor.reported) s.tiles t new_tile no_tile q.reported.0);
      finished = λ u h. ap (λ (b : ProcessorRecord). is_finished b.following) (quiet_part (λ (w : TileState). w.processor.operations) q.operations u)
          ∙ st.reported.finished u (sym (quiet_part (λ (w : TileState). w.processor.reported) q.reported.0 u) ∙ h);
      seen = λ u h. st.reported.seen u (sym (quiet_part (λ (w : TileState). w.processor.seen) q.reported.1 u) ∙ h);
    }

    quiet_rings : AreRings d.depth quiet_state.around
    quiet_rings z within =
        let count : length quiet_state.around.rings ≡ length s.around.rings = length-set s.around.rings x _ in
        ⊎_elim
        (λ (k : z ≡ x). subst (λ (w : ℕ). IsRing d.depth (ring quiet_state.around.rings w)) (sym k)
        (subst (λ (c : Ring). IsRing d.depth c) (sym (changed_here s.around x f x_here)) q.ring_is))
        (λ (other : z ≢ x). subst (λ (c : Ring). IsRing d.depth c) (sym (changed_other s.around x f z other))
        (st.rings z (subst (λ (k : ℕ). z < k) count within)))
        (cases_eq z x)

    -- What holds of every reached state is kept by a quiet step.
    pub quiet_stands : Mirrors d quiet_state quiet_ghost.net.lines → Stands d tags opening quiet_state quiet_ghost order
    quiet_stands mirrors = record {
      tiles = length-set s.tiles t new_tile ∙ st.tiles;
      size = st.size;
      words = st.words;
      rings = quiet_rings;
      lines = words_kept n g.net e net st.lines st.routes q.can;
      routes = routes_kept n g.net e net st.lines st.routes q.can;
      mirrors = mirrors;
      flight = subst (λ (h : Flight). Whole (tiles_of d.shape) tags opening h order) (sym quiet_flight) st.flight;
      carries = quiet_carries;
      phases = quiet_phases;
      reported = quiet_reported;
    }

-- An agent of a tile has a credit back of a channel.
module _ (d : Design) (net : IsNet (net_of d)) (tags : ℕ) (opening : List ℕ) (s : State) (g : Ghost) (order : List LinearizationPoint)
    (st : Stands d tags opening s g order)
    (t : ℕ) (t_in : t < tiles_of d.shape) (x : ℕ) (x_in : x < channel_count d.shape) (returns : 0 < (ring s.around.rings x).channel.returning) where
  abbrev back : Lane
  back = record (g.net.lines x) { held = (g.net.lines x).held + 1; returning = (g.net.lines x).returning - 1 }

  abbrev lines : ℕ → Lane
  lines = (after (net_of d) g.net (Return x)).lines

  back_part : {A : Type 0} (h : Lane → A) → h back ≡ h (g.net.lines x) → (z : ℕ) → h (lines z) ≡ h (g.net.lines z)
  back_part h same z = ⊎_elim
      (λ (k : z ≡ x). ap (λ (w : ℕ). h (lines w)) k ∙ (ap h (update_same g.net.lines x back) ∙ (same ∙ ap (λ (w : ℕ). h (g.net.lines w)) (sym k))))
      (λ (other : z ≢ x). ap h (update_other g.net.lines x back z other))
      (cases_eq z x)

  pub back_quiet : IsQuietStep d net tags opening s g order st t t_in (tile_at s t) x x_in credit_of_ring (Return x)
  back_quiet =
      let old = st.mirrors.rings x x_in in
      let here : lines x ≡ back = update_same g.net.lines x back in
      record {
        can = record { here = subst (λ (k : ℕ). x < k) (sym (channels_of d)) x_in; returns = subst (λ (k : ℕ). 0 < k) (sym old.returning) returns };
        ring_is = credit_ring d.depth (ring s.around.rings x) (st.rings x (subst (λ (k : ℕ). x < k) (sym st.mirrors.count) x_in)) returns;
        lane = record {
          flits = ap (λ (l : Lane). l.flits) here ∙ old.flits;
          held = ap (λ (l : Lane). l.held) here ∙ ap (λ (k : ℕ). k + 1) old.held;
          returning = ap (λ (l : Lane). l.returning) here ∙ ap (λ (k : ℕ). k - 1) old.returning;
        };
        others = λ z other. back_part (λ (l : Lane). l.flits) refl z;
        others_held = λ z other. let same = update_other g.net.lines x back z other in (ap (λ (l : Lane). l.held) same, ap (λ (l : Lane). l.returning) same);
        sent = λ z. refl;
        wholes = λ z ejects. refl;
        operations = refl;
        reported = (refl, refl);
        entries = refl;
        waiting = refl;
        heads = refl;
        phase = st.phases t;
      }

  back_tile : {A : Type 0} (h : TileState → A) (u : ℕ)
      → h (tile_at (quiet_state d net tags opening s g order st t t_in (tile_at s t) x x_in credit_of_ring (Return x)) u) ≡ h (tile_at s u)
  back_tile h u = quiet_part d net tags opening s g order st t t_in (tile_at s t) x x_in credit_of_ring (Return x) h refl u

  -- What holds of every reached state is kept when an agent has a credit back.
  pub back_stands : Stands d tags opening (quiet_state d net tags opening s g order st t t_in (tile_at s t) x x_in credit_of_ring (Return x))
      (quiet_ghost d net tags opening s g order st t t_in (tile_at s t) x x_in credit_of_ring (Return x)) order
  back_stands =
      quiet_stands d net tags opening s g order st t t_in (tile_at s t) x x_in credit_of_ring (Return x) back_quiet
      (end_mirrors d net tags opening s g order st t t_in (tile_at s t) x x_in credit_of_ring (Return x) back_quiet (record {
        router = refl;
        latches = back_part (λ (l : Lane). l.latch) refl;
        owners = back_part (λ (l : Lane). l.owner) refl;
        requests = λ u h. back_part (λ (l : Lane). l.rest) refl _ ∙ (st.mirrors.sends_requests u h ∙ sym (back_tile (λ (w : TileState). w.processor.to_put) u));
        replies = λ u h. back_part (λ (l : Lane). l.rest) refl _
            ∙ (st.mirrors.sends_replies u h ∙ sym (back_tile (λ (w : TileState). in_course w.bank.to_put) u));
        replies_in = λ u h. back_part (λ (l : Lane). l.so_far) refl _
            ∙ (st.mirrors.takes_replies u h ∙ sym (back_tile (λ (w : TileState). w.processor.so_far) u));
        requests_in = λ u h. back_part (λ (l : Lane). l.so_far) refl _ ∙ (st.mirrors.takes_requests u h ∙ sym (back_tile (λ (w : TileState). w.bank.so_far) u));
      }))
