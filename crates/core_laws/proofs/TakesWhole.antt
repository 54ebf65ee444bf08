-- A bank takes the flit that makes a request whole: what holds of every reached state is kept.
use Rattle.std.proofs.Common.{◌≡◌, ◌≢◌, ⊎_elim, ℕ, ◌<◌, Bool, true, false, List, [], ◌∷◌, ◌++◌, map, length, Option, Some, None, refl, sym, ◌∙◌, ap, ap₂}
use Rattle.std.proofs.Common.{subst, slice_get, slice_set, append-nil, length-set, get_or-set_same, get_or-set_other}
use Rattle.std.specs.Prelude.{option_to_list}
use Rattle.std.proofs.lemmas.Bool.{cases_eq}
use Rattle.std.proofs.lemmas.List.{map-append}
use Rattle.std.proofs.lemmas.Option.{same_Some, slice_get-get_or}
use Rattle.torus.specs.Shape.{tiles_of}
use Rattle.torus.specs.declared.shape.Class.{Class}
use Rattle.torus.specs.declared.shape.Class.TheVariants.{Request, Reply}
use Rattle.packet.specs.declared.kinds.Packet.TheVariants as packet
use Rattle.packet.specs.declared.kinds.Request.{Request as Asking}
use Rattle.packet.specs.declared.assembler.Offered.TheVariants.{Whole as Complete}
use Rattle.packet.specs.Spelling.{Spells}
use Rattle.one_order.specs.Observed.{list_at}
use Rattle.one_order.specs.Order.{LinearizationPoint}
use Rattle.channel_number.specs.Order.{channel_count}
use Rattle.flit_buffer.specs.Places.{Ring, IsRing, take_from_ring}
use Rattle.flit_buffer.specs.Surroundings.{ring, changed, AreRings}
use Rattle.flit_buffer.proofs.ManyRings.{changed_here, changed_other}
use Rattle.wormhole.specs.Net.{IsNet, Parcel, IsOn, net_flits as flits_in}
use Rattle.wormhole.specs.State.{NetLine as Lane, Note, NetState}
use Rattle.wormhole.specs.Delivery.{whole, whole_of}
use Rattle.wormhole.proofs.Lists.{all_on}
use Rattle.one_order.specs.ProcessorRecord.{no_processor}
use Rattle.one_order.specs.Flight.{Flight}
use Rattle.one_order.proofs.Whole.{Whole}
use Rattle.packet.specs.Flits.{is_tail, offered, flits_of}
use Rattle.core_laws.specs.Heads.{carries_route}
use Rattle.one_order.specs.ProcessorTable.{ProcessorState}
use Rattle.router.specs.Table.{RouterState, output_owned}
use Rattle.channel_number.specs.Ports.{injection_channel, ejection_channel}
use Rattle.tile.specs.Tile.{Design, TileState}
use Rattle.core_laws.specs.Core.{State}
use Rattle.core_laws.proofs.Projection.{net_of, request_parcel, first_flit}
use Rattle.core_laws.proofs.Parcels.{parcel_flits, request_ends}
use Rattle.core_laws.proofs.ChannelFacts.{joined_from, ejection_tile, is_tail_of}
use Rattle.core_laws.proofs.FlightSteps.{record_in, entries_in, same_flight, part_stays}
use Rattle.core_laws.proofs.Completes.{Completes, completes, sent_kept, accept_routes, accept_words}
use Rattle.core_laws.proofs.TakesFound.{on_map}
use Rattle.core_laws.proofs.ResponseLists.{no_head}
use Rattle.core_laws.proofs.SendFacts.{count_set}
use Rattle.core_laws.proofs.Accepting.{lane_in as accept_in, new_line as accept_line, is_complete, ejection_class, may_accept, taken_ring, taken_lane}
use Rattle.core_laws.proofs.Accepting.{line_other as other_line, line_kept as kept_line, so_far_now, notes_other, taken_net as accept_net}
use Rattle.core_laws.specs.Delivery.{notice_by}
use Rattle.core_laws.proofs.Stands.{Ghost, Stands, Mirrors, Carries, IsLane, IsInPhase, IsProperRequest, tile_at, no_tile, flight_of, in_course}
use Rattle.core_laws.proofs.Stands.{served_requests}

module _ (d : Design) (net : IsNet (net_of d)) (tags : ℕ) (opening : List ℕ) (s : State) (g : Ghost) (order : List LinearizationPoint)
    (st : Stands d tags opening s g order)
    (t : ℕ) (t_in : t < tiles_of d.shape) (flit : ℕ) (more : List ℕ)
    (first : (ring s.around.rings (ejection_channel d.shape t Request)).channel.flits ≡ flit ∷ more)
    (tail : is_tail flit ≡ true) (none : (tile_at s t).bank.waiting ≡ None) (idle : (tile_at s t).bank.to_put ≡ []) where
  abbrev pub lane : ℕ
  lane = ejection_channel d.shape t Request

  pub lane_in : lane < channel_count d.shape
  lane_in = accept_in d net tags opening s g order st t t_in Request flit more first

  abbrev pub taken_net : NetState
  taken_net = accept_net d net tags opening s g order st t t_in Request flit more first

  pub done : Completes (net_of d) g.net taken_net lane flit
  done = completes (net_of d) g.net lane flit more (carries_route flit) net st.lines st.routes
      (may_accept d net tags opening s g order st t t_in Request flit more first) (is_tail_of d flit ∙ tail)

  -- the packet is a request that a processor issued: the one that the bank has whole
  pub record ComesFrom : Type 0 where
    pub request : Asking
    pub proper : IsProperRequest d request
    pub here : request.destination ≡ t
    pub packet_is : done.packet ≡ request_parcel d.shape request
    pub complete : offered (tile_at s t).bank.so_far flit ≡ Complete (packet.Request request)

  pub comes_from : ComesFrom
  comes_from =
      let from = joined_from d done.packet.source t Request (ap ((net_of d).joins done.packet.source) (sym done.destination) ∙ done.parcel.joined) in
      let p : ℕ = from.0 in
      let sent : IsOn done.packet (g.net.notes (injection_channel d.shape p Request)).sent =
      subst (λ (i : ℕ). IsOn done.packet (g.net.notes i).sent) from.2 done.sent in
      let made : IsOn done.packet (map (request_parcel d.shape) (list_at g.requests p)) =
      subst (λ (ks : List Parcel). IsOn done.packet ks) (st.carries.requests_sent p from.1) sent in
      let q = on_map (request_parcel d.shape) (list_at g.requests p) done.packet made in
      let proper = all_on (λ r. IsProperRequest d r × (r.source ≡ p)) (list_at g.requests p) q.0 (st.carries.requests_proper p) q.1 in
      let flits : flits_of (packet.Request q.0) ≡ (tile_at s t).bank.so_far ++ flit ∷ [] =
      parcel_flits d.shape (packet.Request q.0) proper.0.spelled
      ∙ (ap flits_in q.2 ∙ (done.flits ∙ ap (λ (xs : List ℕ). xs ++ flit ∷ []) (st.mirrors.takes_requests t t_in))) in
      record {
        request = q.0;
        proper = proper.0;
        here = ejection_tile d.shape q.0.destination t Request Request
            (sym (request_ends d.shape q.0).1 ∙ (ap (λ (k : Parcel). k.destination) q.2 ∙ done.destination));
        packet_is = sym q.2;
        complete = is_complete (packet.Request q.0) (tile_at s t).bank.so_far flit
            (record { left = []; spelled = subst (Spells (packet.Request q.0)) flits proper.0.spelled; tail = tail }) tail;
      }

  abbrev pub r : Asking
  r = comes_from.request

  abbrev pub whole_tile : TileState
  whole_tile = record (tile_at s t) { bank = record ((tile_at s t).bank) { waiting = Some r; so_far = [] } }

  -- the state after the flit that makes a request whole is taken, and what is noted then
  abbrev pub whole_state : State
  whole_state = record { tiles = slice_set s.tiles t whole_tile; around = changed s.around lane (take_from_ring d.depth) }

  abbrev pub whole_ghost : Ghost
  whole_ghost = record g { net = taken_net }

  tile_in : t < length s.tiles
  tile_in = subst (λ (k : ℕ). t < k) (sym st.tiles) t_in

  pub tile_new : tile_at whole_state t ≡ whole_tile
  tile_new = get_or-set_same s.tiles t whole_tile no_tile tile_in

  tile_other : (u : ℕ) → u ≢ t → tile_at whole_state u ≡ tile_at s u
  tile_other u other = get_or-set_other s.tiles t u whole_tile no_tile other

  part_kept : {A : Type 0} (f : TileState → A) → f whole_tile ≡ f (tile_at s t) → (u : ℕ) → f (tile_at whole_state u) ≡ f (tile_at s u)
  part_kept f same u = ⊎_elim
      (λ (h : u ≡ t). ap (λ (v : ℕ). f (tile_at whole_state v)) h ∙ (ap f tile_new ∙ (same ∙ ap (λ (v : ℕ). f (tile_at s v)) (sym h))))
      (λ (other : u ≢ t). ap f (tile_other u other))
      (cases_eq u t)

  by_tile : (P : ℕ → TileState → Type 0) → P t whole_tile → ((u : ℕ) → u ≢ t → P u (tile_at s u)) → (u : ℕ) → P u (tile_at whole_state u)
  by_tile P new old u = ⊎_elim
      (λ (h : u ≡ t). subst (λ (v : ℕ). P v (tile_at whole_state v)) (sym h) (subst (P t) (sym tile_new) new))
      (λ (other : u ≢ t). subst (P u) (sym (tile_other u other)) (old u other))
      (cases_eq u t)

  line_other : (z : ℕ) → z ≢ lane → whole_ghost.net.lines z ≡ g.net.lines z
  line_other z other = other_line d net tags opening s g order st t t_in Request flit more first z other

  line_kept : {A : Type 0} (f : Lane → A) → f (accept_line d net tags opening s g order st t t_in Request flit more first) ≡ f (g.net.lines lane) → (z : ℕ)
      → f (whole_ghost.net.lines z) ≡ f (g.net.lines z)
  line_kept f same z = kept_line d net tags opening s g order st t t_in Request flit more first f same z

  lane_here : lane < length s.around.rings
  lane_here = subst (λ (k : ℕ). lane < k) (sym st.mirrors.count) lane_in

  new_lanes : (z : ℕ) → z < channel_count d.shape → IsLane (ring whole_state.around.rings z).channel (whole_ghost.net.lines z)
  new_lanes z within = ⊎_elim
      (λ (h : z ≡ lane). subst (λ (w : ℕ). IsLane (ring whole_state.around.rings w).channel (whole_ghost.net.lines w)) (sym h)
      (subst (λ (c : Ring). IsLane c.channel (whole_ghost.net.lines lane)) (sym (changed_here s.around lane (take_from_ring d.depth) lane_here))
      (taken_lane d net tags opening s g order st t t_in Request flit more first)))
      (λ (other : z ≢ lane).
      subst (λ (c : Ring). IsLane c.channel (whole_ghost.net.lines z)) (sym (changed_other s.around lane (take_from_ring d.depth) z other))
      (subst (λ (l : Lane). IsLane (ring s.around.rings z).channel l) (sym (line_other z other)) (st.mirrors.rings z within)))
      (cases_eq z lane)

  reply_apart : (u : ℕ) → ejection_channel d.shape u Reply ≢ lane
  reply_apart u h = let k : ◌≡◌ {A = Class} Reply Request = ejection_class d.shape u t Reply Request h in cc

  apart : (u : ℕ) → u ≢ t → ejection_channel d.shape u Request ≢ lane
  apart u other h = other (ejection_tile d.shape u t Request Request h)

  whole_mirrors : Mirrors d whole_state whole_ghost.net.lines
  whole_mirrors = record {
    count = length-set s.around.rings lane _ ∙ st.mirrors.count;
    rings = new_lanes;
    ports = λ u h. let k = part_kept (λ (w : TileState). w.router) refl u in rw k (st.mirrors.ports u h);
    latches = λ u i h l. let k = part_kept (λ (w : TileState). w.router) refl u in rw k (line_kept (λ (x : Lane). x.latch) refl _ ∙ st.mirrors.latches u i h l);
    owners = λ u i o h l m. let k = part_kept (λ (w : TileState). w.router) refl u in
        rw (k, line_kept (λ (x : Lane). x.owner) refl _) (st.mirrors.owners u i o h l m);
    unowned = λ u o h l no_owner. let k = part_kept (λ (w : TileState). w.router) refl u in
        line_kept (λ (x : Lane). x.owner) refl _ ∙ st.mirrors.unowned u o h l (λ i owns. no_owner i (ap (λ (x : RouterState). output_owned x i) k ∙ owns));
    outputs = λ u i o h owns. let k = part_kept (λ (w : TileState). w.router) refl u in
        st.mirrors.outputs u i o h (ap (λ (x : RouterState). output_owned x i) (sym k) ∙ owns);
    sends_requests = λ u h. line_kept (λ (x : Lane). x.rest) refl _
        ∙ (st.mirrors.sends_requests u h ∙ sym (part_kept (λ (w : TileState). w.processor.to_put) refl u));
    sends_replies = λ u h. line_kept (λ (x : Lane). x.rest) refl _
        ∙ (st.mirrors.sends_replies u h ∙ sym (part_kept (λ (w : TileState). in_course w.bank.to_put) refl u));
    takes_replies = λ u h. ap (λ (l : Lane). l.so_far) (line_other (ejection_channel d.shape u Reply) (reply_apart u))
        ∙ (st.mirrors.takes_replies u h ∙ sym (part_kept (λ (w : TileState). w.processor.so_far) refl u));
    takes_requests = by_tile (λ u w. u < tiles_of d.shape → (whole_ghost.net.lines (ejection_channel d.shape u Request)).so_far ≡ w.bank.so_far)
        (λ h. so_far_now d net tags opening s g order st t t_in Request flit more first true tail)
        (λ u other h. ap (λ (l : Lane). l.so_far) (line_other (ejection_channel d.shape u Request) (apart u other)) ∙ st.mirrors.takes_requests u h);
  }

  whole_other : (z : ℕ) → z ≢ lane → whole whole_ghost.net z ≡ whole g.net z
  whole_other z other = ap (λ (k : Note). whole_of k.awaited k.begun) (notes_other (net_of d) g.net lane flit more (carries_route flit) z other)

  whole_carries : Carries d whole_state whole_ghost
  whole_carries = record {
    processors = st.carries.processors;
    takers = st.carries.takers;
    requests_sent = λ u h. sent_kept (net_of d) g.net lane flit more (carries_route flit) (injection_channel d.shape u Request) ∙ st.carries.requests_sent u h;
    requests_proper = st.carries.requests_proper;
    requests_whole = by_tile (λ u w. u < tiles_of d.shape
        → whole whole_ghost.net (ejection_channel d.shape u Request)
        ≡ map (request_parcel d.shape) (served_requests (tiles_of d.shape) u w.bank.entries ++ option_to_list w.bank.waiting))
        (λ h.
        let P : Asking → Parcel = request_parcel d.shape in
        let served : List Asking = served_requests (tiles_of d.shape) t (tile_at s t).bank.entries in
        let was : whole g.net lane ≡ map P served =
        st.carries.requests_whole t t_in ∙ ap (map P) (ap (λ (o : Option Asking). served ++ option_to_list o) none ∙ append-nil served) in
        done.whole_now ∙ (ap₂ (λ (ks : List Parcel) (k : Parcel). ks ++ k ∷ []) was comes_from.packet_is ∙ sym (map-append P served (r ∷ []))))
        (λ u other h. whole_other (ejection_channel d.shape u Request) (apart u other) ∙ st.carries.requests_whole u h);
    waiting_proper = by_tile (λ u w. (q : Asking) → w.bank.waiting ≡ Some q → IsProperRequest d q × (q.destination ≡ u))
        (λ q h. subst (λ (x : Asking). IsProperRequest d x × (x.destination ≡ t)) (same_Some r q h) (comes_from.proper, comes_from.here))
        (λ u other. st.carries.waiting_proper u);
    asked = λ p b h l. let k = part_kept (λ (w : TileState). w.bank.entries) refl b in rw k (st.carries.asked p b h l);
    replies_sent = λ b h.
        let k = part_kept (λ (w : TileState). w.bank.entries) refl b in
        let l = part_kept (λ (w : TileState). w.bank.to_put) refl b in
        rw (k, l, sent_kept (net_of d) g.net lane flit more (carries_route flit) (injection_channel d.shape b Reply)) (st.carries.replies_sent b h);
    replies_proper = λ b h. let k = part_kept (λ (w : TileState). w.bank.entries) refl b in rw k (st.carries.replies_proper b h);
    replies_whole = λ p h. whole_other (ejection_channel d.shape p Reply) (reply_apart p) ∙ st.carries.replies_whole p h;
    told = λ b p h l. let k = part_kept (λ (w : TileState). w.bank.entries) refl b in rw k (st.carries.told b p h l);
    issued = λ p. st.carries.issued p ∙ sym (part_kept (λ (w : TileState). w.processor.operations.issued) refl p);
    answered = λ p. ap (map (notice_by p)) (part_kept (λ (w : TileState). w.processor.operations.answers) refl p) ∙ st.carries.answered p;
  }

  whole_phases : (u : ℕ) → IsInPhase u (tile_at whole_state u).bank
  whole_phases = by_tile (λ u w. IsInPhase u w.bank)
      (record {
        waits = λ q h. (refl, idle);
        replies = λ h. refl;
        fresh = λ h. let no : ◌≡◌ {A = Bool} true false = sym h ∙ (ap (λ (xs : List ℕ). carries_route (first_flit xs)) idle ∙ no_head) in absurd (cc);
      })
      (λ u other. st.phases u)

  tile_there : slice_get s.tiles t ≡ Some (tile_at s t)
  tile_there = slice_get-get_or s.tiles t no_tile tile_in

  whole_flight : flight_of d.words whole_state whole_ghost ≡ flight_of d.words s g
  whole_flight = same_flight _ _ _ _ _ _ g.asked g.told (part_stays record_in no_processor s.tiles t (tile_at s t) whole_tile tile_there refl)
      (part_stays entries_in [] s.tiles t (tile_at s t) whole_tile tile_there refl) refl

  whole_rings : AreRings d.depth whole_state.around
  whole_rings z within =
      let count : length whole_state.around.rings ≡ length s.around.rings = length-set s.around.rings lane _ in
      ⊎_elim
      (λ (h : z ≡ lane). subst (λ (w : ℕ). IsRing d.depth (ring whole_state.around.rings w)) (sym h)
      (subst (λ (c : Ring). IsRing d.depth c) (sym (changed_here s.around lane (take_from_ring d.depth) lane_here))
      (taken_ring d net tags opening s g order st t t_in Request flit more first)))
      (λ (other : z ≢ lane). subst (λ (c : Ring). IsRing d.depth c) (sym (changed_other s.around lane (take_from_ring d.depth) z other))
      (st.rings z (subst (λ (k : ℕ). z < k) count within)))
      (cases_eq z lane)

  -- What holds of every reached state is kept by the take that makes a request whole.
  pub whole_stands : Stands d tags opening whole_state whole_ghost order
  whole_stands = record {
    tiles = length-set s.tiles t whole_tile ∙ st.tiles;
    size = st.size;
    words = st.words;
    rings = whole_rings;
    lines = accept_words (net_of d) g.net lane flit more (carries_route flit) net st.lines st.routes
        (may_accept d net tags opening s g order st t t_in Request flit more first);
    routes = accept_routes (net_of d) g.net lane flit more (carries_route flit) net st.lines st.routes
        (may_accept d net tags opening s g order st t t_in Request flit more first);
    mirrors = whole_mirrors;
    flight = subst (λ (f : Flight). Whole (tiles_of d.shape) tags opening f order) (sym whole_flight) st.flight;
    carries = whole_carries;
    phases = whole_phases;
    reported = record {
      counts = st.reported.counts ∙ sym (count_set (λ (x : TileState). x.processor.reported) s.tiles t whole_tile no_tile refl);
      finished = λ u h. let k = part_kept (λ (x : TileState). x.processor) refl u in
          rw k (st.reported.finished u (ap (λ (p : ProcessorState). p.reported) (sym k) ∙ h));
      seen = λ u h. st.reported.seen u (sym (part_kept (λ (x : TileState). x.processor.seen) refl u) ∙ h);
    };
  }
