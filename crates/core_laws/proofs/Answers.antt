-- A processor takes the flit that makes a reply whole: what holds of every reached state is kept.
use Rattle.std.proofs.Common.{◌≡◌, ◌≢◌, ⊎_elim, ℕ, ◌+◌, ◌<◌, Bool, true, cond, List, [], ◌∷◌, ◌++◌, map, length, Some, refl, sym, ◌∙◌, ap, ap₂}
use Rattle.std.proofs.Common.{subst, arith, slice_get, slice_set, length-set, get_or-set_same, get_or-set_other}
use Rattle.std.specs.Prelude.{remove}
use Rattle.std.proofs.lemmas.Bool.{cases_eq}
use Rattle.std.proofs.lemmas.List.{map-append}
use Rattle.std.proofs.lemmas.Option.{same_Some, slice_get-get_or}
use Rattle.torus.specs.Shape.{tiles_of}
use Rattle.torus.specs.declared.shape.Class.{Class}
use Rattle.torus.specs.declared.shape.Class.TheVariants.{Request, Reply}
use Rattle.packet.specs.declared.kinds.Packet.TheVariants as packet
use Rattle.packet.specs.declared.kinds.Response.{Response as Telling}
use Rattle.packet.specs.declared.assembler.Offered.TheVariants.{Whole as Complete}
use Rattle.one_order.specs.Following.{is_finished}
use Rattle.one_order.specs.Observed.{list_at}
use Rattle.one_order.specs.Order.{LinearizationPoint}
use Rattle.one_order.specs.Events.{points_of, push_at}
use Rattle.one_order.proofs.Lists.{list_at_push_same, list_at_push_other}
use Rattle.channel_number.specs.Order.{channel_count, channel_at}
use Rattle.dateline_route.specs.declared.channel.Channel.{Channel}
use Rattle.flit_buffer.specs.Channel.{CanTake, rest}
use Rattle.flit_buffer.specs.Places.{Ring, IsRing, take_from_ring}
use Rattle.flit_buffer.specs.Surroundings.{ring, changed, AreRings}
use Rattle.flit_buffer.proofs.RingLaws.{take_ring}
use Rattle.flit_buffer.proofs.ManyRings.{changed_here, changed_other}
use Rattle.wormhole.specs.Net.{Net, IsNet, Parcel}
use Rattle.wormhole.specs.State.{NetLine as Lane, Note}
use Rattle.wormhole.specs.Events.{accepted, after}
use Rattle.wormhole.specs.Delivery.{whole, whole_of}
use Rattle.wormhole.proofs.Changes.{update_same, update_other}
use Rattle.one_order.specs.ProcessorRecord.{ProcessorRecord, answered_by, answer_of}
use Rattle.one_order.specs.Flight.{Flight, Takes, event, told_place, IsFound}
use Rattle.one_order.proofs.Whole.{Whole, any_steps}
use Rattle.packet.specs.Flits.{offered}
use Rattle.core_laws.specs.Heads.{carries_route}
use Rattle.home_bank.specs.BankTable.{BankState}
use Rattle.router.specs.Table.{RouterState, output_owned}
use Rattle.channel_number.specs.Ports.{injection_channel, ejection_channel}
use Rattle.tile.specs.Tile.{Design, TileState}
use Rattle.core_laws.specs.Core.{State}
use Rattle.core_laws.proofs.Projection.{net_of, response_parcel}
use Rattle.core_laws.proofs.ChannelFacts.{ejection_is, ejection_in, ejection_tile, is_tail_of}
use Rattle.core_laws.proofs.TileMoves.{IsHere, TileMoved}
use Rattle.core_laws.proofs.FlightSteps.{moved_flight}
use Rattle.core_laws.proofs.Completes.{accepts, sent_kept, accept_routes, accept_words}
use Rattle.core_laws.proofs.TakesFound.{can_accept, done, tells, takes_found, comes_from}
use Rattle.core_laws.proofs.AnswerNotes.{told_left}
use Rattle.core_laws.proofs.SendFacts.{count_set}
use Rattle.core_laws.specs.Delivery.{Notice, notice_of, notice_by}
use Rattle.core_laws.proofs.Stands.{Ghost, Stands, Mirrors, Carries, Reported, IsLane, tile_at, no_tile, flight_of}
use Rattle.core_laws.proofs.Accepting.{lines_accepts, notes_other}
use Rattle.core_laws.proofs.Finished.{finished_stays}

module _ (d : Design) (net : IsNet (net_of d)) (tags : ℕ) (opening : List ℕ) (s : State) (g : Ghost) (order : List LinearizationPoint)
    (st : Stands d tags opening s g order)
    (p : ℕ) (p_in : p < tiles_of d.shape) (flit : ℕ) (more : List ℕ)
    (first : (ring s.around.rings (ejection_channel d.shape p Reply)).channel.flits ≡ flit ∷ more)
    (r : Telling) (is_whole : offered (tile_at s p).processor.so_far flit ≡ Complete (packet.Response r)) where
  abbrev n : Net
  n = net_of d

  abbrev lane : ℕ
  lane = ejection_channel d.shape p Reply

  abbrev taken_tile : TileState
  taken_tile = record (tile_at s p)
      { processor = record ((tile_at s p).processor) { operations = answered_by (tile_at s p).processor.operations r; so_far = [] } }

  -- the state after the flit that makes a reply whole is taken, and what is noted then
  abbrev pub taken_state : State
  taken_state = record { tiles = slice_set s.tiles p taken_tile; around = changed s.around lane (take_from_ring d.depth) }

  abbrev pub taken_ghost : Ghost
  taken_ghost = record {
    net = after n g.net (accepts lane flit more (carries_route flit));
    asked = g.asked;
    told = remove g.told (told_place g.told r);
    requests = g.requests;
    taken = push_at g.taken p r;
  }

  pub found : IsFound (length opening) (flight_of d.words s g) (Takes r) × (r.destination ≡ p)
  found = takes_found d net tags opening s g order st p p_in flit more first r is_whole

  here : r.destination ≡ p
  here = found.1

  tile_in : p < length s.tiles
  tile_in = subst (λ (k : ℕ). p < k) (sym st.tiles) p_in

  tile_new : tile_at taken_state p ≡ taken_tile
  tile_new = get_or-set_same s.tiles p taken_tile no_tile tile_in

  tile_other : (u : ℕ) → u ≢ p → tile_at taken_state u ≡ tile_at s u
  tile_other u other = get_or-set_other s.tiles p u taken_tile no_tile other

  part_kept : {A : Type 0} (f : TileState → A) → f taken_tile ≡ f (tile_at s p) → (u : ℕ) → f (tile_at taken_state u) ≡ f (tile_at s u)
  part_kept f same u = ⊎_elim
      (λ (h : u ≡ p). ap (λ (v : ℕ). f (tile_at taken_state v)) h ∙ (ap f tile_new ∙ (same ∙ ap (λ (v : ℕ). f (tile_at s v)) (sym h))))
      (λ (other : u ≢ p). ap f (tile_other u other))
      (cases_eq u p)

  abbrev new_line : Lane
  new_line = accepted n flit more (g.net.lines lane)

  line_here : taken_ghost.net.lines lane ≡ new_line
  line_here = ap (λ (f : ℕ → Lane). f lane) (lines_accepts n g.net lane flit more (carries_route flit)) ∙ update_same g.net.lines lane new_line

  line_other : (z : ℕ) → z ≢ lane → taken_ghost.net.lines z ≡ g.net.lines z
  line_other z other = ap (λ (f : ℕ → Lane). f z) (lines_accepts n g.net lane flit more (carries_route flit)) ∙ update_other g.net.lines lane new_line z other

  line_kept : {A : Type 0} (f : Lane → A) → f new_line ≡ f (g.net.lines lane) → (z : ℕ) → f (taken_ghost.net.lines z) ≡ f (g.net.lines z)
  line_kept f same z = ⊎_elim
      (λ (h : z ≡ lane). ap (λ (w : ℕ). f (taken_ghost.net.lines w)) h ∙ (ap f line_here ∙ (same ∙ ap (λ (w : ℕ). f (g.net.lines w)) (sym h))))
      (λ (other : z ≢ lane). ap f (line_other z other))
      (cases_eq z lane)

  lane_in : lane < channel_count d.shape
  lane_in = ejection_in d.shape p Reply p_in

  lane_here : lane < length s.around.rings
  lane_here = subst (λ (k : ℕ). lane < k) (sym st.mirrors.count) lane_in

  new_lanes : (z : ℕ) → z < channel_count d.shape → IsLane (ring taken_state.around.rings z).channel (taken_ghost.net.lines z)
  new_lanes z within = ⊎_elim
      (λ (h : z ≡ lane).
      let old = st.mirrors.rings lane lane_in in
      let ring_here : ring taken_state.around.rings lane ≡ take_from_ring d.depth (ring s.around.rings lane) =
      changed_here s.around lane (take_from_ring d.depth) lane_here in
      subst (λ (w : ℕ). IsLane (ring taken_state.around.rings w).channel (taken_ghost.net.lines w)) (sym h) (record {
        flits = ap (λ (l : Lane). l.flits) line_here ∙ (ap rest (sym first) ∙ ap (λ (c : Ring). c.channel.flits) (sym ring_here));
        held = ap (λ (l : Lane). l.held) line_here ∙ (old.held ∙ ap (λ (c : Ring). c.channel.held) (sym ring_here));
        returning = ap (λ (l : Lane). l.returning) line_here ∙ (ap (λ (k : ℕ). k + 1) old.returning ∙ ap (λ (c : Ring). c.channel.returning) (sym ring_here));
      }))
      (λ (other : z ≢ lane).
      subst (λ (c : Ring). IsLane c.channel (taken_ghost.net.lines z)) (sym (changed_other s.around lane (take_from_ring d.depth) z other))
      (subst (λ (l : Lane). IsLane (ring s.around.rings z).channel l) (sym (line_other z other)) (st.mirrors.rings z within)))
      (cases_eq z lane)

  request_apart : (u : ℕ) → ejection_channel d.shape u Request ≢ lane
  request_apart u h =
      let k : ◌≡◌ {A = Class} Request Reply =
      ap (λ (x : Channel). x.class) (sym (ejection_is d.shape u Request) ∙ (ap (channel_at d.shape) h ∙ ejection_is d.shape p Reply)) in cc

  tail : n.is_tail flit ≡ true
  tail = is_tail_of d flit ∙ (tells d net tags opening s g order st p p_in flit more first r is_whole).tail

  so_far_new : (u : ℕ) → u < tiles_of d.shape → (taken_ghost.net.lines (ejection_channel d.shape u Reply)).so_far ≡ (tile_at taken_state u).processor.so_far
  so_far_new u u_in = ⊎_elim
      (λ (h : u ≡ p).
      ap (λ (v : ℕ). (taken_ghost.net.lines (ejection_channel d.shape v Reply)).so_far) h ∙ (ap (λ (l : Lane). l.so_far) line_here
      ∙ (ap (λ (b : Bool). cond b [] ((g.net.lines lane).so_far ++ flit ∷ [])) tail
      ∙ (ap (λ (w : TileState). w.processor.so_far) (sym tile_new) ∙ ap (λ (v : ℕ). (tile_at taken_state v).processor.so_far) (sym h)))))
      (λ (other : u ≢ p).
      ap (λ (l : Lane). l.so_far) (line_other (ejection_channel d.shape u Reply) (λ h. other (ejection_tile d.shape u p Reply Reply h)))
      ∙ (st.mirrors.takes_replies u u_in ∙ ap (λ (w : TileState). w.processor.so_far) (sym (tile_other u other))))
      (cases_eq u p)

  taken_mirrors : Mirrors d taken_state taken_ghost.net.lines
  taken_mirrors = record {
    count = length-set s.around.rings lane _ ∙ st.mirrors.count;
    rings = new_lanes;
    ports = λ u h. let k = part_kept (λ (w : TileState). w.router) refl u in rw k (st.mirrors.ports u h);
    latches = λ u i h l. let k = part_kept (λ (w : TileState). w.router) refl u in rw k (line_kept (λ (x : Lane). x.latch) refl _ ∙ st.mirrors.latches u i h l);
    owners = λ u i o h l m. let k = part_kept (λ (w : TileState). w.router) refl u in
        rw (k, line_kept (λ (x : Lane). x.owner) refl _) (st.mirrors.owners u i o h l m);
    unowned = λ u o h l none. let k = part_kept (λ (w : TileState). w.router) refl u in
        line_kept (λ (x : Lane). x.owner) refl _ ∙ st.mirrors.unowned u o h l (λ i owns. none i (ap (λ (x : RouterState). output_owned x i) k ∙ owns));
    outputs = λ u i o h owns. let k = part_kept (λ (w : TileState). w.router) refl u in
        st.mirrors.outputs u i o h (ap (λ (x : RouterState). output_owned x i) (sym k) ∙ owns);
    sends_requests = λ u h. line_kept (λ (x : Lane). x.rest) refl _
        ∙ (st.mirrors.sends_requests u h ∙ sym (part_kept (λ (w : TileState). w.processor.to_put) refl u));
    sends_replies = λ u h. let k = part_kept (λ (w : TileState). w.bank) refl u in
        rw k (line_kept (λ (x : Lane). x.rest) refl _ ∙ st.mirrors.sends_replies u h);
    takes_replies = so_far_new;
    takes_requests = λ u h. let k = part_kept (λ (w : TileState). w.bank) refl u in
        rw k (ap (λ (l : Lane). l.so_far) (line_other (ejection_channel d.shape u Request) (request_apart u)) ∙ st.mirrors.takes_requests u h);
  }

  whole_other : (z : ℕ) → z ≢ lane → whole taken_ghost.net z ≡ whole g.net z
  whole_other z other = ap (λ (k : Note). whole_of k.awaited k.begun) (notes_other n g.net lane flit more (carries_route flit) z other)

  takers_in : p < length g.taken
  takers_in = subst (λ (k : ℕ). p < k) (sym st.carries.takers) p_in

  whole_new : (u : ℕ) → u < tiles_of d.shape
      → whole taken_ghost.net (ejection_channel d.shape u Reply) ≡ map (response_parcel d.shape) (list_at taken_ghost.taken u)
  whole_new u u_in = ⊎_elim
      (λ (h : u ≡ p).
      let R : Telling → Parcel = response_parcel d.shape in
      ap (λ (v : ℕ). whole taken_ghost.net (ejection_channel d.shape v Reply)) h
      ∙ ((done d net tags opening s g order st p p_in flit more first r is_whole).whole_now
      ∙ (ap₂ (λ (ks : List Parcel) (k : Parcel). ks ++ k ∷ []) (st.carries.replies_whole p p_in)
      (comes_from d net tags opening s g order st p p_in flit more first r is_whole).packet_is
      ∙ (sym (map-append R (list_at g.taken p) (r ∷ []))
      ∙ (ap (map R) (sym (list_at_push_same g.taken p r takers_in)) ∙ ap (λ (v : ℕ). map R (list_at taken_ghost.taken v)) (sym h))))))
      (λ (other : u ≢ p).
      whole_other (ejection_channel d.shape u Reply) (λ h. other (ejection_tile d.shape u p Reply Reply h))
      ∙ (st.carries.replies_whole u u_in ∙ ap (map (response_parcel d.shape)) (sym (list_at_push_other g.taken p u r other))))
      (cases_eq u p)

  taken_carries : Carries d taken_state taken_ghost
  taken_carries = record {
    processors = st.carries.processors;
    takers = length-set g.taken p _ ∙ st.carries.takers;
    requests_sent = λ u h. sent_kept n g.net lane flit more (carries_route flit) (injection_channel d.shape u Request) ∙ st.carries.requests_sent u h;
    requests_proper = st.carries.requests_proper;
    requests_whole = λ b h. let k = part_kept (λ (w : TileState). w.bank) refl b in
        rw k (whole_other (ejection_channel d.shape b Request) (request_apart b) ∙ st.carries.requests_whole b h);
    waiting_proper = λ b q waits. st.carries.waiting_proper b q
        (ap (λ (w : BankState). w.waiting) (sym (part_kept (λ (w : TileState). w.bank) refl b)) ∙ waits);
    asked = λ u b h l. let k = part_kept (λ (w : TileState). w.bank) refl b in rw k (st.carries.asked u b h l);
    replies_sent = λ b h. let k = part_kept (λ (w : TileState). w.bank) refl b in
        rw (k, sent_kept n g.net lane flit more (carries_route flit) (injection_channel d.shape b Reply)) (st.carries.replies_sent b h);
    replies_proper = λ b h. let k = part_kept (λ (w : TileState). w.bank) refl b in rw k (st.carries.replies_proper b h);
    replies_whole = whole_new;
    told = λ b u h l. let k = part_kept (λ (w : TileState). w.bank) refl b in
        rw k (told_left d net tags opening s g order st p p_in flit more first r is_whole b u h l);
    issued = λ u. st.carries.issued u ∙ sym (part_kept (λ (w : TileState). w.processor.operations.issued) refl u);
    answered = λ u. ⊎_elim
        (λ (h : u ≡ p).
        let operations : ProcessorRecord = (tile_at s p).processor.operations in
        subst (λ (v : ℕ). map (notice_by v) (tile_at taken_state v).processor.operations.answers ≡ map notice_of (list_at taken_ghost.taken v)) (sym h)
        (ap (λ (w : TileState). map (notice_by p) w.processor.operations.answers) tile_new
        ∙ (map-append (notice_by p) operations.answers (answer_of operations r ∷ [])
        ∙ (ap₂ (λ (xs : List Notice) (v : ℕ). xs ++ (record { processor = v; bank = r.source; place = r.place; reply = r.reply }) ∷ []) (st.carries.answered p)
        (sym here)
        ∙ (sym (map-append notice_of (list_at g.taken p) (r ∷ [])) ∙ ap (map notice_of) (sym (list_at_push_same g.taken p r takers_in)))))))
        (λ (other : u ≢ p). ap (λ (w : TileState). map (notice_by u) w.processor.operations.answers) (tile_other u other)
        ∙ (st.carries.answered u ∙ ap (map notice_of) (sym (list_at_push_other g.taken p u r other))))
        (cases_eq u p);
  }

  taken_reported : Reported d taken_state
  taken_reported = record {
    counts = st.reported.counts ∙ sym (count_set (λ (w : TileState). w.processor.reported) s.tiles p taken_tile no_tile refl);
    finished = λ u h. ⊎_elim
        (λ (e : u ≡ p).
        let was : (tile_at s p).processor.reported ≡ true =
        ap (λ (v : ℕ). (tile_at s v).processor.reported) (sym e) ∙ (sym (part_kept (λ (w : TileState). w.processor.reported) refl u) ∙ h) in
        ap (λ (v : ℕ). is_finished (tile_at taken_state v).processor.operations.following) e
        ∙ (ap (λ (w : TileState). is_finished w.processor.operations.following) tile_new
        ∙ finished_stays (tile_at s p).processor.operations.following _ r.reply (st.reported.finished p was)))
        (λ (other : u ≢ p). let k = tile_other u other in rw k (st.reported.finished u (ap (λ (w : TileState). w.processor.reported) (sym k) ∙ h)))
        (cases_eq u p);
    seen = λ u h. st.reported.seen u (sym (part_kept (λ (w : TileState). w.processor.seen) refl u) ∙ h);
  }

  taken_rings : AreRings d.depth taken_state.around
  taken_rings z within =
      let count : length taken_state.around.rings ≡ length s.around.rings = length-set s.around.rings lane _ in
      let some : CanTake (ring s.around.rings lane).channel = rw first (let l : 0 < length (flit ∷ more) = omega arith in l) in
      ⊎_elim
      (λ (h : z ≡ lane). subst (λ (w : ℕ). IsRing d.depth (ring taken_state.around.rings w)) (sym h)
      (subst (λ (c : Ring). IsRing d.depth c) (sym (changed_here s.around lane (take_from_ring d.depth) lane_here))
      (take_ring d.depth (ring s.around.rings lane) (st.rings lane lane_here) some)))
      (λ (other : z ≢ lane). subst (λ (c : Ring). IsRing d.depth c) (sym (changed_other s.around lane (take_from_ring d.depth) z other))
      (st.rings z (subst (λ (k : ℕ). z < k) count within)))
      (cases_eq z lane)

  tile_there : slice_get s.tiles p ≡ Some (tile_at s p)
  tile_there = slice_get-get_or s.tiles p no_tile tile_in

  taken_moved : TileMoved (tiles_of d.shape) d.words p (tile_at s p) s.around taken_tile taken_state.around (Some (Takes r))
  taken_moved = record { operations = refl; entries = refl; memory = refl }

  taken_records : (k : ℕ) → Whole (tiles_of d.shape) tags opening (flight_of d.words taken_state taken_ghost)
      (order ++ points_of (event (flight_of d.words s g) (Takes r)) k)
  taken_records k =
      let w = (any_steps (tiles_of d.shape) tags opening (flight_of d.words s g) order k (Some (Takes r)) st.flight
      (λ m h. subst (IsFound (length opening) (flight_of d.words s g)) (same_Some _ _ h) found.0)).whole in
      let same = moved_flight d s g.asked g.told p (tile_at s p) taken_tile taken_state.around (Some (Takes r)) tile_there taken_moved
      (λ m h. subst (IsHere (tiles_of d.shape) d.words p) (same_Some _ _ h) here) in
      subst (λ (f : Flight). Whole (tiles_of d.shape) tags opening f (order ++ points_of (event (flight_of d.words s g) (Takes r)) k)) (sym same) w

  -- What holds of every reached state is kept by the take that makes a reply whole.
  pub taken_stands : (k : ℕ) → Stands d tags opening taken_state taken_ghost (order ++ points_of (event (flight_of d.words s g) (Takes r)) k)
  taken_stands k = record {
    tiles = length-set s.tiles p taken_tile ∙ st.tiles;
    size = st.size;
    words = st.words;
    rings = taken_rings;
    lines = accept_words n g.net lane flit more (carries_route flit) net st.lines st.routes (can_accept d net tags opening s g order st p p_in flit more first);
    routes = accept_routes n g.net lane flit more (carries_route flit) net st.lines st.routes (can_accept d net tags opening s g order st p p_in flit more first);
    mirrors = taken_mirrors;
    flight = taken_records k;
    carries = taken_carries;
    phases = λ b. let k = part_kept (λ (w : TileState). w.bank) refl b in rw k (st.phases b);
    reported = taken_reported;
  }
