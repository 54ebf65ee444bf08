-- A bank sends the head flit of a reply: what holds of every reached state is kept.
use Rattle.std.proofs.Common.{◌≡◌, ◌≢◌, ⊎_elim, ℕ, ◌-◌, ◌<◌, Bool, true, false, cond, List, [], ◌∷◌, ◌++◌, map, length, Some, refl, sym, ◌∙◌, ap, ap₂, subst}
use Rattle.std.proofs.Common.{slice_get, slice_set, append-nil, length-set, get_or-set_same, get_or-set_other}
use Rattle.std.proofs.lemmas.Bool.{cases_eq}
use Rattle.std.proofs.lemmas.Option.{slice_get-get_or}
use Rattle.torus.specs.Shape.{tiles_of}
use Rattle.torus.specs.declared.shape.Class.{Class}
use Rattle.torus.specs.declared.shape.Class.TheVariants.{Request, Reply}
use Rattle.packet.specs.declared.kinds.Packet.TheVariants as packet
use Rattle.packet.specs.declared.kinds.Response.{Response as Telling}
use Rattle.one_order.specs.Order.{LinearizationPoint}
use Rattle.channel_number.specs.Order.{channel_count}
use Rattle.flit_buffer.specs.Channel.{rest}
use Rattle.flit_buffer.specs.Places.{Ring, IsRing, put_in_ring}
use Rattle.flit_buffer.specs.Surroundings.{ring, changed, AreRings}
use Rattle.flit_buffer.proofs.RingLaws.{put_ring}
use Rattle.flit_buffer.proofs.ManyRings.{changed_here, changed_other}
use Rattle.wormhole.specs.Net.{Net, IsNet, Parcel, IsParcel}
use Rattle.wormhole.specs.State.{NetLine as Lane, Note}
use Rattle.wormhole.specs.Events.{InjectHead, CanInjectHead, after, put}
use Rattle.wormhole.specs.Delivery.{whole, whole_of}
use Rattle.wormhole.proofs.Changes.{update_same, update_other}
use Rattle.wormhole.proofs.Reached.{words_kept, routes_kept}
use Rattle.wormhole.proofs.Lists.{all_on}
use Rattle.one_order.specs.ProcessorRecord.{no_processor}
use Rattle.one_order.specs.Flight.{Flight}
use Rattle.one_order.proofs.Whole.{Whole}
use Rattle.packet.specs.Flits.{flits_of}
use Rattle.core_laws.specs.Heads.{carries_route}
use Rattle.one_order.specs.ProcessorTable.{ProcessorState}
use Rattle.router.specs.Table.{RouterState, output_owned}
use Rattle.channel_number.specs.Ports.{injection_channel}
use Rattle.tile.specs.Tile.{Design, TileState}
use Rattle.core_laws.specs.Core.{State}
use Rattle.core_laws.proofs.Projection.{net_of, parcel_of, response_parcel, first_flit}
use Rattle.core_laws.proofs.ChannelFacts.{channels_of, injects_at, injection_in}
use Rattle.core_laws.proofs.Parcels.{response_ends}
use Rattle.core_laws.proofs.PacketFacts.{is_parcel}
use Rattle.core_laws.proofs.FlightSteps.{record_in, entries_in, same_flight, part_stays}
use Rattle.core_laws.proofs.SendFacts.{injection_tile, injection_class, count_set, head_some}
use Rattle.core_laws.proofs.ResponseLists.{no_head, last_on, one_of_map, no_head_after}
use Rattle.core_laws.specs.Delivery.{notice_by}
use Rattle.core_laws.proofs.Stands.{Ghost, Stands, Mirrors, Carries, IsLane, IsInPhase, IsProperResponse, tile_at, no_tile, flight_of, in_course}
use Rattle.core_laws.proofs.Stands.{responses_from, last_of, unsent}

module _ (d : Design) (net : IsNet (net_of d)) (tags : ℕ) (opening : List ℕ) (s : State) (g : Ghost) (order : List LinearizationPoint)
    (st : Stands d tags opening s g order)
    (t : ℕ) (t_in : t < tiles_of d.shape) (starts : carries_route (first_flit (tile_at s t).bank.to_put) ≡ true)
    (credit : 0 < (ring s.around.rings (injection_channel d.shape t Reply)).channel.held) where
  abbrev n : Net
  n = net_of d

  abbrev lane : ℕ
  lane = injection_channel d.shape t Reply

  abbrev responses : List Telling
  responses = responses_from t 0 (tile_at s t).bank.entries

  pub fresh : (q : Telling) × (last_of responses ≡ q ∷ []) × (flits_of (packet.Response q) ≡ (tile_at s t).bank.to_put)
  fresh = one_of_map (λ r. flits_of (packet.Response r)) (last_of responses) (tile_at s t).bank.to_put ((st.phases t).fresh starts)

  proper : IsProperResponse d fresh.0 × (fresh.0.source ≡ t)
  proper = all_on (λ r. IsProperResponse d r × (r.source ≡ t)) responses fresh.0 (st.carries.replies_proper t t_in) (last_on responses fresh.0 fresh.1)

  abbrev pub parcel : Parcel
  parcel = response_parcel d.shape fresh.0

  parcel_is : (parcel.head ≡ first_flit (flits_of (packet.Response fresh.0))) × (parcel.tail ≡ rest (flits_of (packet.Response fresh.0)))
  unfolding parcel_of
  parcel_is = (refl, refl)

  parcel_same : parcel ≡ response_parcel d.shape fresh.0
  parcel_same = refl

  of_net : IsParcel n parcel
  of_net = is_parcel d (packet.Response fresh.0) proper.0.spelled proper.0.source proper.0.destination

  abbrev flit : ℕ
  flit = first_flit (tile_at s t).bank.to_put

  abbrev more : List ℕ
  more = rest (tile_at s t).bank.to_put

  head_is : parcel.head ≡ flit
  head_is = parcel_is.0 ∙ ap first_flit fresh.2

  tail_is : parcel.tail ≡ more
  tail_is = parcel_is.1 ∙ ap rest fresh.2

  abbrev sent_tile : TileState
  sent_tile = record (tile_at s t) { bank = record ((tile_at s t).bank) { to_put = more } }

  abbrev pub reply_state : State
  reply_state = record { tiles = slice_set s.tiles t sent_tile; around = changed s.around lane (put_in_ring flit) }

  abbrev pub reply_ghost : Ghost
  reply_ghost = record g { net = after n g.net (InjectHead lane parcel) }

  tile_in : t < length s.tiles
  tile_in = subst (λ (k : ℕ). t < k) (sym st.tiles) t_in

  tile_new : tile_at reply_state t ≡ sent_tile
  tile_new = get_or-set_same s.tiles t sent_tile no_tile tile_in

  tile_other : (u : ℕ) → u ≢ t → tile_at reply_state u ≡ tile_at s u
  tile_other u other = get_or-set_other s.tiles t u sent_tile no_tile other

  by_tile : (P : ℕ → TileState → Type 0) → P t sent_tile → ((u : ℕ) → u ≢ t → P u (tile_at s u)) → (u : ℕ) → P u (tile_at reply_state u)
  by_tile P new old u = ⊎_elim
      (λ (h : u ≡ t). subst (λ (v : ℕ). P v (tile_at reply_state v)) (sym h) (subst (P t) (sym tile_new) new))
      (λ (other : u ≢ t). subst (P u) (sym (tile_other u other)) (old u other))
      (cases_eq u t)

  part_kept : {A : Type 0} (f : TileState → A) → f sent_tile ≡ f (tile_at s t) → (u : ℕ) → f (tile_at reply_state u) ≡ f (tile_at s u)
  part_kept f same u = ⊎_elim
      (λ (h : u ≡ t). ap (λ (v : ℕ). f (tile_at reply_state v)) h ∙ (ap f tile_new ∙ (same ∙ ap (λ (v : ℕ). f (tile_at s v)) (sym h))))
      (λ (other : u ≢ t). ap f (tile_other u other))
      (cases_eq u t)

  abbrev new_line : Lane
  new_line = record (put parcel.head (g.net.lines lane)) { rest = parcel.tail }

  line_kept : {A : Type 0} (f : Lane → A) → f new_line ≡ f (g.net.lines lane) → (x : ℕ) → f (reply_ghost.net.lines x) ≡ f (g.net.lines x)
  line_kept f same x = ⊎_elim
      (λ (e : x ≡ lane). ap (λ (y : ℕ). f (reply_ghost.net.lines y)) e
      ∙ (ap f (update_same g.net.lines lane new_line) ∙ (same ∙ ap (λ (y : ℕ). f (g.net.lines y)) (sym e))))
      (λ (other : x ≢ lane). ap f (update_other g.net.lines lane new_line x other))
      (cases_eq x lane)

  abbrev new_note : Note
  new_note = record (g.net.notes lane)
      { parcels = (g.net.notes lane).parcels ++ parcel ∷ []; owed = parcel.tail; sent = (g.net.notes lane).sent ++ parcel ∷ [] }

  note_kept : {A : Type 0} (f : Note → A) → f new_note ≡ f (g.net.notes lane) → (x : ℕ) → f (reply_ghost.net.notes x) ≡ f (g.net.notes x)
  note_kept f same x = ⊎_elim
      (λ (e : x ≡ lane). ap (λ (y : ℕ). f (reply_ghost.net.notes y)) e
      ∙ (ap f (update_same g.net.notes lane new_note) ∙ (same ∙ ap (λ (y : ℕ). f (g.net.notes y)) (sym e))))
      (λ (other : x ≢ lane). ap f (update_other g.net.notes lane new_note x other))
      (cases_eq x lane)

  lane_in : lane < channel_count d.shape
  lane_in = injection_in d.shape t Reply t_in

  lane_here : lane < length s.around.rings
  lane_here = subst (λ (k : ℕ). lane < k) (sym st.mirrors.count) lane_in

  pub can : CanInjectHead n (g.net.lines lane) lane parcel
  can = record {
    here = subst (λ (k : ℕ). lane < k) (sym (channels_of d)) lane_in;
    injects = injects_at d t Reply;
    idle = st.mirrors.sends_replies t t_in ∙ ap (λ (b : Bool). cond b [] (tile_at s t).bank.to_put) starts;
    credit = subst (λ (k : ℕ). 0 < k) (sym (st.mirrors.rings lane lane_in).held) credit;
    parcel = of_net;
    source = ap (λ (k : Parcel). k.source) parcel_same ∙ ((response_ends d.shape fresh.0).0 ∙ ap (λ (v : ℕ). injection_channel d.shape v Reply) proper.1);
  }

  no_more : carries_route (first_flit more) ≡ false
  no_more = ap (λ (fs : List ℕ). carries_route (first_flit fs)) (sym tail_is) ∙ no_head_after d parcel.tail of_net.tail

  new_lanes : (x : ℕ) → x < channel_count d.shape → IsLane (ring reply_state.around.rings x).channel (reply_ghost.net.lines x)
  new_lanes x within = ⊎_elim
      (λ (e : x ≡ lane).
      let old = st.mirrors.rings lane lane_in in
      let here : ring reply_state.around.rings lane ≡ put_in_ring flit (ring s.around.rings lane) = changed_here s.around lane (put_in_ring flit) lane_here in
      let line : reply_ghost.net.lines lane ≡ new_line = update_same g.net.lines lane new_line in
      subst (λ (y : ℕ). IsLane (ring reply_state.around.rings y).channel (reply_ghost.net.lines y)) (sym e) (record {
        flits = ap (λ (l : Lane). l.flits) line
            ∙ (ap₂ (λ (xs : List ℕ) (f : ℕ). xs ++ f ∷ []) old.flits head_is ∙ ap (λ (r : Ring). r.channel.flits) (sym here));
        held = ap (λ (l : Lane). l.held) line ∙ (ap (λ (k : ℕ). k - 1) old.held ∙ ap (λ (r : Ring). r.channel.held) (sym here));
        returning = ap (λ (l : Lane). l.returning) line ∙ (old.returning ∙ ap (λ (r : Ring). r.channel.returning) (sym here));
      }))
      (λ (other : x ≢ lane).
      subst (λ (r : Ring). IsLane r.channel (reply_ghost.net.lines x)) (sym (changed_other s.around lane (put_in_ring flit) x other))
      (subst (λ (l : Lane). IsLane (ring s.around.rings x).channel l) (sym (update_other g.net.lines lane new_line x other)) (st.mirrors.rings x within)))
      (cases_eq x lane)

  request_apart : (u : ℕ) → injection_channel d.shape u Request ≢ lane
  request_apart u e = let k : ◌≡◌ {A = Class} Request Reply = injection_class d.shape u t Request Reply e in cc

  apart : (u : ℕ) → u ≢ t → injection_channel d.shape u Reply ≢ lane
  apart u other e = other (injection_tile d.shape u t Reply Reply e)

  reply_mirrors : Mirrors d reply_state reply_ghost.net.lines
  reply_mirrors = record {
    count = length-set s.around.rings lane _ ∙ st.mirrors.count;
    rings = new_lanes;
    ports = λ u h. let r = part_kept (λ (x : TileState). x.router) refl u in rw r (st.mirrors.ports u h);
    latches = λ u i h l. let r = part_kept (λ (x : TileState). x.router) refl u in rw r (line_kept (λ (x : Lane). x.latch) refl _ ∙ st.mirrors.latches u i h l);
    owners = λ u i p h l m. let r = part_kept (λ (x : TileState). x.router) refl u in
        rw (r, line_kept (λ (x : Lane). x.owner) refl _) (st.mirrors.owners u i p h l m);
    unowned = λ u p h l none. let r = part_kept (λ (x : TileState). x.router) refl u in
        line_kept (λ (x : Lane). x.owner) refl _ ∙ st.mirrors.unowned u p h l (λ i owns. none i (ap (λ (x : RouterState). output_owned x i) r ∙ owns));
    outputs = λ u i p h owns. let r = part_kept (λ (x : TileState). x.router) refl u in
        st.mirrors.outputs u i p h (ap (λ (x : RouterState). output_owned x i) (sym r) ∙ owns);
    sends_requests = λ u h. ap (λ (l : Lane). l.rest) (update_other g.net.lines lane new_line (injection_channel d.shape u Request) (request_apart u))
        ∙ (st.mirrors.sends_requests u h ∙ sym (part_kept (λ (x : TileState). x.processor.to_put) refl u));
    sends_replies = by_tile (λ u w. u < tiles_of d.shape → (reply_ghost.net.lines (injection_channel d.shape u Reply)).rest ≡ in_course w.bank.to_put)
        (λ h. ap (λ (l : Lane). l.rest) (update_same g.net.lines lane new_line) ∙ (tail_is ∙ sym (ap (λ (b : Bool). cond b [] more) no_more)))
        (λ u other h. ap (λ (l : Lane). l.rest) (update_other g.net.lines lane new_line (injection_channel d.shape u Reply) (apart u other))
        ∙ st.mirrors.sends_replies u h);
    takes_replies = λ u h. line_kept (λ (x : Lane). x.so_far) refl _
        ∙ (st.mirrors.takes_replies u h ∙ sym (part_kept (λ (x : TileState). x.processor.so_far) refl u));
    takes_requests = λ u h. line_kept (λ (x : Lane). x.so_far) refl _
        ∙ (st.mirrors.takes_requests u h ∙ sym (part_kept (λ (x : TileState). x.bank.so_far) refl u));
  }

  whole_kept : (x : ℕ) → whole reply_ghost.net x ≡ whole g.net x
  whole_kept x = ap₂ whole_of (note_kept (λ (k : Note). k.awaited) refl x) (note_kept (λ (k : Note). k.begun) refl x)

  reply_carries : Carries d reply_state reply_ghost
  reply_carries = record {
    processors = st.carries.processors;
    takers = st.carries.takers;
    requests_sent = λ u h. ap (λ (k : Note). k.sent) (update_other g.net.notes lane new_note (injection_channel d.shape u Request) (request_apart u))
        ∙ st.carries.requests_sent u h;
    requests_proper = st.carries.requests_proper;
    requests_whole = λ b h. let k = part_kept (λ (x : TileState). x.bank.entries) refl b in let l = part_kept (λ (x : TileState). x.bank.waiting) refl b in
        rw (k, l) (whole_kept _ ∙ st.carries.requests_whole b h);
    waiting_proper = λ b r waits. st.carries.waiting_proper b r (sym (part_kept (λ (x : TileState). x.bank.waiting) refl b) ∙ waits);
    asked = λ p b h l. let k = part_kept (λ (x : TileState). x.bank.entries) refl b in rw k (st.carries.asked p b h l);
    replies_sent = by_tile (λ u w. u < tiles_of d.shape → map (response_parcel d.shape) (responses_from u 0 w.bank.entries)
        ≡ (reply_ghost.net.notes (injection_channel d.shape u Reply)).sent
        ++ map (response_parcel d.shape) (unsent w.bank.to_put (responses_from u 0 w.bank.entries)))
        (λ h.
        let R : Telling → Parcel = response_parcel d.shape in
        let was : unsent (tile_at s t).bank.to_put responses ≡ fresh.0 ∷ [] = ap (λ (b : Bool). cond b (last_of responses) []) starts ∙ fresh.1 in
        let sent : (reply_ghost.net.notes lane).sent ≡ (g.net.notes lane).sent ++ R fresh.0 ∷ [] =
        ap (λ (k : Note). k.sent) (update_same g.net.notes lane new_note) ∙ ap (λ (k : Parcel). (g.net.notes lane).sent ++ k ∷ []) parcel_same in
        let none : unsent more responses ≡ [] = ap (λ (b : Bool). cond b (last_of responses) []) no_more in
        st.carries.replies_sent t h ∙ (ap (λ (rs : List Telling). (g.net.notes lane).sent ++ map R rs) was ∙ (sym sent
        ∙ (sym (append-nil (reply_ghost.net.notes lane).sent) ∙ ap (λ (rs : List Telling). (reply_ghost.net.notes lane).sent ++ map R rs) (sym none)))))
        (λ u other h. st.carries.replies_sent u h
        ∙ ap (λ (ks : List Parcel). ks
        ++ map (response_parcel d.shape) (unsent (tile_at s u).bank.to_put (responses_from u 0 (tile_at s u).bank.entries)))
        (sym (ap (λ (k : Note). k.sent) (update_other g.net.notes lane new_note (injection_channel d.shape u Reply) (apart u other)))));
    replies_proper = λ b h. let k = part_kept (λ (x : TileState). x.bank.entries) refl b in rw k (st.carries.replies_proper b h);
    replies_whole = λ p h. whole_kept _ ∙ st.carries.replies_whole p h;
    told = λ b p h l. let k = part_kept (λ (x : TileState). x.bank.entries) refl b in rw k (st.carries.told b p h l);
    issued = λ p. st.carries.issued p ∙ sym (part_kept (λ (w : TileState). w.processor.operations.issued) refl p);
    answered = λ p. ap (map (notice_by p)) (part_kept (λ (w : TileState). w.processor.operations.answers) refl p) ∙ st.carries.answered p;
  }

  some_left : (tile_at s t).bank.to_put ≢ []
  some_left e = let k : ◌≡◌ {A = Bool} true false = sym starts ∙ (ap (λ (fs : List ℕ). carries_route (first_flit fs)) e ∙ no_head) in cc

  reply_phases : (u : ℕ) → IsInPhase u (tile_at reply_state u).bank
  reply_phases = by_tile (λ u w. IsInPhase u w.bank)
      (record {
        waits = λ r e. absurd (some_left ((st.phases t).waits r e).1);
        replies = λ e. (st.phases t).replies some_left;
        fresh = λ e. let k : ◌≡◌ {A = Bool} true false = sym e ∙ no_more in absurd (cc);
      })
      (λ u other. st.phases u)

  tile_there : slice_get s.tiles t ≡ Some (tile_at s t)
  tile_there = slice_get-get_or s.tiles t no_tile tile_in

  reply_flight : flight_of d.words reply_state reply_ghost ≡ flight_of d.words s g
  reply_flight = same_flight _ _ _ _ _ _ g.asked g.told (part_stays record_in no_processor s.tiles t (tile_at s t) sent_tile tile_there refl)
      (part_stays entries_in [] s.tiles t (tile_at s t) sent_tile tile_there refl) refl

  flit_some : flit ≢ 0
  flit_some e = head_some (packet.Response fresh.0) proper.0.spelled (ap first_flit fresh.2 ∙ e)

  reply_rings : AreRings d.depth reply_state.around
  reply_rings x within =
      let count : length reply_state.around.rings ≡ length s.around.rings = length-set s.around.rings lane _ in
      ⊎_elim
      (λ (e : x ≡ lane). subst (λ (y : ℕ). IsRing d.depth (ring reply_state.around.rings y)) (sym e)
      (subst (λ (r : Ring). IsRing d.depth r) (sym (changed_here s.around lane (put_in_ring flit) lane_here))
      (put_ring d.depth (ring s.around.rings lane) (st.rings lane lane_here) flit flit_some credit)))
      (λ (other : x ≢ lane). subst (λ (r : Ring). IsRing d.depth r) (sym (changed_other s.around lane (put_in_ring flit) x other))
      (st.rings x (subst (λ (k : ℕ). x < k) count within)))
      (cases_eq x lane)

  -- What holds of every reached state is kept by the send of a reply's head flit.
  pub reply_stands : Stands d tags opening reply_state reply_ghost order
  reply_stands =
      record {
        tiles = length-set s.tiles t sent_tile ∙ st.tiles;
        size = st.size;
        words = st.words;
        rings = reply_rings;
        lines = words_kept n g.net (InjectHead lane parcel) net st.lines st.routes can;
        routes = routes_kept n g.net (InjectHead lane parcel) net st.lines st.routes can;
        mirrors = reply_mirrors;
        flight = subst (λ (f : Flight). Whole (tiles_of d.shape) tags opening f order) (sym reply_flight) st.flight;
        carries = reply_carries;
        phases = reply_phases;
        reported = record {
          counts = st.reported.counts ∙ sym (count_set (λ (x : TileState). x.processor.reported) s.tiles t sent_tile no_tile refl);
          finished = λ u h. let k = part_kept (λ (x : TileState). x.processor) refl u in
              rw k (st.reported.finished u (ap (λ (p : ProcessorState). p.reported) (sym k) ∙ h));
          seen = λ u h. st.reported.seen u (sym (part_kept (λ (x : TileState). x.processor.seen) refl u) ∙ h);
        };
      }
