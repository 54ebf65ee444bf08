-- A processor sends a head flit: what holds of every reached state is kept.
use Rattle.std.proofs.Common.{◌≡◌, ◌≢◌, ⊎_elim, ℕ, ◌-◌, ◌<◌, true, List, [], ◌∷◌, ◌++◌, map, length, Some, None, refl, sym, ◌∙◌, ap, ap₂, subst}
use Rattle.std.proofs.Common.{slice_get, slice_index_or, slice_set, append-nil, length-set, get_or-set_same, get_or-set_other}
use Rattle.std.proofs.lemmas.Bool.{cases_eq}
use Rattle.std.proofs.lemmas.List.{map-set, get_or-map, length-map}
use Rattle.std.proofs.lemmas.Option.{slice_get-get_or}
use Rattle.torus.specs.Shape.{tiles_of}
use Rattle.torus.specs.declared.shape.Class.{Class}
use Rattle.torus.specs.declared.shape.Class.TheVariants.{Request, Reply}
use Rattle.packet.specs.declared.kinds.Operation.{Operation}
use Rattle.packet.specs.declared.kinds.Packet.TheVariants as packet
use Rattle.packet.specs.declared.kinds.Request.{Request as Asking}
use Rattle.channel_number.specs.Order.{channel_count}
use Rattle.one_order.specs.Following.{next_operation_of}
use Rattle.one_order.specs.Order.{LinearizationPoint}
use Rattle.one_order.specs.Events.{push_at}
use Rattle.flit_buffer.specs.Channel.{rest}
use Rattle.flit_buffer.specs.Places.{Ring, IsRing, put_in_ring}
use Rattle.flit_buffer.specs.Surroundings.{ring, changed, AreRings}
use Rattle.flit_buffer.proofs.RingLaws.{put_ring}
use Rattle.flit_buffer.proofs.ManyRings.{changed_here, changed_other}
use Rattle.wormhole.specs.Net.{IsNet, Parcel, IsParcel}
use Rattle.wormhole.specs.State.{NetLine as Lane, Note}
use Rattle.wormhole.specs.Events.{InjectHead, CanInjectHead, after, put}
use Rattle.wormhole.specs.Delivery.{whole, whole_of}
use Rattle.wormhole.proofs.Changes.{update_same, update_other}
use Rattle.wormhole.proofs.Reached.{words_kept, routes_kept}
use Rattle.one_order.specs.ProcessorRecord.{ProcessorRecord, no_processor, ready, issued_by, request_of}
use Rattle.one_order.specs.Flight.{Flight, Sends, moved, IsFound}
use Rattle.one_order.proofs.Whole.{Whole, sends_steps}
use Rattle.packet.specs.Flits.{flits_of}
use Rattle.router.specs.Table.{RouterState, output_owned}
use Rattle.home_bank.specs.BankTable.{BankState}
use Rattle.channel_number.specs.Ports.{injection_channel}
use Rattle.tile.specs.Tile.{Design, TileState}
use Rattle.core_laws.specs.Core.{State, records_of}
use Rattle.core_laws.proofs.Projection.{net_of, parcel_of, request_parcel, first_flit}
use Rattle.core_laws.proofs.Parcels.{request_ends}
use Rattle.core_laws.proofs.ChannelFacts.{injects_at}
use Rattle.core_laws.proofs.FlightSteps.{record_in, entries_in, same_flight, part_stays}
use Rattle.core_laws.specs.Delivery.{notice_by}
use Rattle.core_laws.proofs.Stands.{Ghost, Stands, Mirrors, Carries, Reported, IsLane, IsProperRequest, tile_at, no_tile, flight_of}
use Rattle.core_laws.proofs.SendFacts.{injection_tile, injection_class, ready_parts, ended, count_set, head_some}
use Rattle.core_laws.proofs.SendNotes.{proper_all, sent_all, asked_here, issued_all}

module _ (d : Design) (net : IsNet (net_of d)) (tags : ℕ) (opening : List ℕ) (s : State) (g : Ghost) (order : List LinearizationPoint)
    (st : Stands d tags opening s g order)
    (t : ℕ) (t_in : t < tiles_of d.shape) (tag : ℕ) (o : Operation) where
  abbrev pub asks : Asking
  asks = request_of (tiles_of d.shape) t tag o

  abbrev pub lane : ℕ
  lane = injection_channel d.shape t Request

  abbrev pub parcel : Parcel
  parcel = request_parcel d.shape asks

  abbrev pub sent_tile : TileState
  sent_tile = record (tile_at s t) {
    processor = record ((tile_at s t).processor)
        { operations = issued_by (tile_at s t).processor.operations tag o; to_put = rest (flits_of (packet.Request asks)) };
  }

  -- the state after the head flit of an operation's request is sent
  abbrev pub sent_state : State
  sent_state = record { tiles = slice_set s.tiles t sent_tile; around = changed s.around lane (put_in_ring (first_flit (flits_of (packet.Request asks)))) }

  -- what is noted then
  abbrev pub sent_ghost : Ghost
  sent_ghost = record {
    net = after (net_of d) g.net (InjectHead lane parcel);
    asked = g.asked ++ asks ∷ [];
    told = g.told;
    requests = push_at g.requests t asks;
    taken = g.taken;
  }

  pub tile_in : t < length s.tiles
  tile_in = subst (λ (n : ℕ). t < n) (sym st.tiles) t_in

  pub tile_new : tile_at sent_state t ≡ sent_tile
  tile_new = get_or-set_same s.tiles t sent_tile no_tile tile_in

  pub tile_other : (u : ℕ) → u ≢ t → tile_at sent_state u ≡ tile_at s u
  tile_other u other = get_or-set_other s.tiles t u sent_tile no_tile other

  -- a part of the tiles that stays
  pub part_kept : {A : Type 0} (f : TileState → A) → f sent_tile ≡ f (tile_at s t) → (u : ℕ) → f (tile_at sent_state u) ≡ f (tile_at s u)
  part_kept f same u = ⊎_elim
      (λ (e : u ≡ t). ap (λ (v : ℕ). f (tile_at sent_state v)) e ∙ (ap f tile_new ∙ (same ∙ ap (λ (v : ℕ). f (tile_at s v)) (sym e))))
      (λ (other : u ≢ t). ap f (tile_other u other))
      (cases_eq u t)

  abbrev new_line : Lane
  new_line = record (put parcel.head (g.net.lines lane)) { rest = parcel.tail }

  -- a part of the lines that stays
  pub line_kept : {A : Type 0} (f : Lane → A) → f new_line ≡ f (g.net.lines lane) → (x : ℕ) → f (sent_ghost.net.lines x) ≡ f (g.net.lines x)
  line_kept f same x = ⊎_elim
      (λ (e : x ≡ lane). ap (λ (y : ℕ). f (sent_ghost.net.lines y)) e
      ∙ (ap f (update_same g.net.lines lane new_line) ∙ (same ∙ ap (λ (y : ℕ). f (g.net.lines y)) (sym e))))
      (λ (other : x ≢ lane). ap f (update_other g.net.lines lane new_line x other))
      (cases_eq x lane)

  abbrev pub new_note : Note
  new_note = record (g.net.notes lane)
      { parcels = (g.net.notes lane).parcels ++ parcel ∷ []; owed = parcel.tail; sent = (g.net.notes lane).sent ++ parcel ∷ [] }

  pub note_kept : {A : Type 0} (f : Note → A) → f new_note ≡ f (g.net.notes lane) → (x : ℕ) → f (sent_ghost.net.notes x) ≡ f (g.net.notes x)
  note_kept f same x = ⊎_elim
      (λ (e : x ≡ lane). ap (λ (y : ℕ). f (sent_ghost.net.notes y)) e
      ∙ (ap f (update_same g.net.notes lane new_note) ∙ (same ∙ ap (λ (y : ℕ). f (g.net.notes y)) (sym e))))
      (λ (other : x ≢ lane). ap f (update_other g.net.notes lane new_note x other))
      (cases_eq x lane)

  pub note_other : (x : ℕ) → x ≢ lane → sent_ghost.net.notes x ≡ g.net.notes x
  note_other x other = update_other g.net.notes lane new_note x other

  parcel_is : (parcel.head ≡ first_flit (flits_of (packet.Request asks))) × (parcel.tail ≡ rest (flits_of (packet.Request asks)))
  unfolding parcel_of
  parcel_is = (refl, refl)

  module _ (proper : IsProperRequest d asks) (lane_in : lane < channel_count d.shape) (is_parcel : IsParcel (net_of d) parcel)
      (idle : (tile_at s t).processor.to_put ≡ []) (credit : 0 < (ring s.around.rings lane).channel.held) where
    abbrev head : ℕ
    head = first_flit (flits_of (packet.Request asks))

    lane_here : lane < length s.around.rings
    lane_here = subst (λ (n : ℕ). lane < n) (sym st.mirrors.count) lane_in

    -- the network's event may happen
    channels_are : (net_of d).channels ≡ channel_count d.shape
    unfolding net_of
    channels_are = refl

    pub can_inject : CanInjectHead (net_of d) (g.net.lines lane) lane parcel
    can_inject = record {
      here = subst (λ (n : ℕ). lane < n) (sym channels_are) lane_in;
      injects = injects_at d t Request;
      idle = st.mirrors.sends_requests t t_in ∙ idle;
      credit = subst (λ (n : ℕ). 0 < n) (sym (st.mirrors.rings lane lane_in).held) credit;
      parcel = is_parcel;
      source = (request_ends d.shape asks).0;
    }

    new_lane : IsLane (ring sent_state.around.rings lane).channel (sent_ghost.net.lines lane)
    new_lane =
        let old = st.mirrors.rings lane lane_in in
        let here : ring sent_state.around.rings lane ≡ put_in_ring head (ring s.around.rings lane) = changed_here s.around lane (put_in_ring head) lane_here in
        let line : sent_ghost.net.lines lane ≡ new_line = update_same g.net.lines lane new_line in
        record {
          flits = ap (λ (l : Lane). l.flits) line
              ∙ (ap₂ (λ (xs : List ℕ) (f : ℕ). xs ++ f ∷ []) old.flits parcel_is.0 ∙ ap (λ (r : Ring). r.channel.flits) (sym here));
          held = ap (λ (l : Lane). l.held) line ∙ (ap (λ (n : ℕ). n - 1) old.held ∙ ap (λ (r : Ring). r.channel.held) (sym here));
          returning = ap (λ (l : Lane). l.returning) line ∙ (old.returning ∙ ap (λ (r : Ring). r.channel.returning) (sym here));
        }

    new_lanes : (x : ℕ) → x < channel_count d.shape → IsLane (ring sent_state.around.rings x).channel (sent_ghost.net.lines x)
    new_lanes x within = ⊎_elim
        (λ (e : x ≡ lane). subst (λ (y : ℕ). IsLane (ring sent_state.around.rings y).channel (sent_ghost.net.lines y)) (sym e) new_lane)
        (λ (other : x ≢ lane).
        subst (λ (r : Ring). IsLane r.channel (sent_ghost.net.lines x)) (sym (changed_other s.around lane (put_in_ring head) x other))
        (subst (λ (l : Lane). IsLane (ring s.around.rings x).channel l) (sym (update_other g.net.lines lane new_line x other)) (st.mirrors.rings x within)))
        (cases_eq x lane)

    rest_sent : (u : ℕ) → u < tiles_of d.shape → (sent_ghost.net.lines (injection_channel d.shape u Request)).rest ≡ (tile_at sent_state u).processor.to_put
    rest_sent u u_in = ⊎_elim
        (λ (e : u ≡ t).
        ap (λ (v : ℕ). (sent_ghost.net.lines (injection_channel d.shape v Request)).rest) e
        ∙ (ap (λ (l : Lane). l.rest) (update_same g.net.lines lane new_line)
        ∙ (parcel_is.1 ∙ (ap (λ (x : TileState). x.processor.to_put) (sym tile_new) ∙ ap (λ (v : ℕ). (tile_at sent_state v).processor.to_put) (sym e)))))
        (λ (other : u ≢ t).
        ap (λ (l : Lane). l.rest)
        (update_other g.net.lines lane new_line (injection_channel d.shape u Request) (λ e. other (injection_tile d.shape u t Request Request e)))
        ∙ (st.mirrors.sends_requests u u_in ∙ ap (λ (x : TileState). x.processor.to_put) (sym (tile_other u other))))
        (cases_eq u t)

    pub reply_apart : (u : ℕ) → injection_channel d.shape u Reply ≢ lane
    reply_apart u e = let no : ◌≡◌ {A = Class} Reply Request = injection_class d.shape u t Reply Request e in cc

    pub sent_mirrors : Mirrors d sent_state sent_ghost.net.lines
    sent_mirrors = record {
      count = length-set s.around.rings lane _ ∙ st.mirrors.count;
      rings = new_lanes;
      ports = λ u h. let r = part_kept (λ (x : TileState). x.router) refl u in rw r (st.mirrors.ports u h);
      latches = λ u i h l. let r = part_kept (λ (x : TileState). x.router) refl u in
          rw r (line_kept (λ (x : Lane). x.latch) refl _ ∙ st.mirrors.latches u i h l);
      owners = λ u i p h l m. let r = part_kept (λ (x : TileState). x.router) refl u in
          rw (r, line_kept (λ (x : Lane). x.owner) refl _) (st.mirrors.owners u i p h l m);
      unowned = λ u p h l none. let r = part_kept (λ (x : TileState). x.router) refl u in
          line_kept (λ (x : Lane). x.owner) refl _ ∙ st.mirrors.unowned u p h l (λ i owns. none i (ap (λ (x : RouterState). output_owned x i) r ∙ owns));
      outputs = λ u i p h owns. let r = part_kept (λ (x : TileState). x.router) refl u in
          st.mirrors.outputs u i p h (ap (λ (x : RouterState). output_owned x i) (sym r) ∙ owns);
      sends_requests = rest_sent;
      sends_replies = λ u h. let b = part_kept (λ (x : TileState). x.bank) refl u in
          rw b (ap (λ (l : Lane). l.rest) (update_other g.net.lines lane new_line (injection_channel d.shape u Reply) (reply_apart u))
          ∙ st.mirrors.sends_replies u h);
      takes_replies = λ u h. line_kept (λ (x : Lane). x.so_far) refl _
          ∙ (st.mirrors.takes_replies u h ∙ sym (part_kept (λ (x : TileState). x.processor.so_far) refl u));
      takes_requests = λ u h. let b = part_kept (λ (x : TileState). x.bank) refl u in
          rw b (line_kept (λ (x : Lane). x.so_far) refl _ ∙ st.mirrors.takes_requests u h);
    }

    whole_kept : (x : ℕ) → whole sent_ghost.net x ≡ whole g.net x
    whole_kept x = ap₂ whole_of (note_kept (λ (k : Note). k.awaited) refl x) (note_kept (λ (k : Note). k.begun) refl x)

    pub sent_carries : Carries d sent_state sent_ghost
    sent_carries = record {
      processors = length-set g.requests t _ ∙ st.carries.processors;
      takers = st.carries.takers;
      requests_sent = sent_all d s g st.carries t t_in tag o sent_ghost.net.notes
          (ap (λ (k : Note). k.sent) (update_same g.net.notes lane new_note)) note_other;
      requests_proper = proper_all d s g st.carries t t_in tag o proper;
      requests_whole = λ b h. let k = part_kept (λ (x : TileState). x.bank) refl b in rw k (whole_kept _ ∙ st.carries.requests_whole b h);
      waiting_proper = λ b r waits. st.carries.waiting_proper b r
          (ap (λ (x : BankState). x.waiting) (sym (part_kept (λ (x : TileState). x.bank) refl b)) ∙ waits);
      asked = λ p b h l. let k = part_kept (λ (x : TileState). x.bank) refl b in rw k (asked_here d s g st.carries t t_in tag o p b h l);
      replies_sent = λ b h. let k = part_kept (λ (x : TileState). x.bank) refl b in
          rw (k, note_other (injection_channel d.shape b Reply) (reply_apart b)) (st.carries.replies_sent b h);
      replies_proper = λ b h. let k = part_kept (λ (x : TileState). x.bank) refl b in rw k (st.carries.replies_proper b h);
      replies_whole = λ p h. whole_kept _ ∙ st.carries.replies_whole p h;
      told = λ b p h l. let k = part_kept (λ (x : TileState). x.bank) refl b in rw k (st.carries.told b p h l);
      issued = issued_all d s g st.carries t t_in tag o (λ p. (tile_at sent_state p).processor.operations.issued)
          (ap (λ (w : TileState). w.processor.operations.issued) tile_new)
          (λ p other. ap (λ (w : TileState). w.processor.operations.issued) (tile_other p other));
      answered = λ p. ap (map (notice_by p)) (part_kept (λ (w : TileState). w.processor.operations.answers) refl p) ∙ st.carries.answered p;
    }

    -- the machine without its network has made the move
    record_here : slice_index_or (records_of s) t no_processor ≡ (tile_at s t).processor.operations
    record_here = get_or-map record_in s.tiles t no_tile no_processor tile_in

    tile_there : slice_get s.tiles t ≡ Some (tile_at s t)
    tile_there = slice_get-get_or s.tiles t no_tile tile_in

    pub sent_flight : flight_of d.words sent_state sent_ghost ≡ moved (tiles_of d.shape) (flight_of d.words s g) (Sends t tag o)
    sent_flight = same_flight _ _ _ _ _ _ _ g.told
        (map-set record_in s.tiles t sent_tile ∙ ap (λ (b : ProcessorRecord). slice_set (records_of s) t (issued_by b tag o)) (sym record_here))
        (part_stays entries_in [] s.tiles t (tile_at s t) sent_tile tile_there refl)
        refl

    module _ (is_ready : ready (tile_at s t).processor.operations ≡ Some (tag, o)) (addressed : o.address < length opening) where
      parts : (next_operation_of (tile_at s t).processor.operations.following ≡ Some o) × (slice_get (tile_at s t).processor.operations.tags tag ≡ Some None)
      parts = ready_parts (tile_at s t).processor.operations tag o is_ready

      sent_found : IsFound (length opening) (flight_of d.words s g) (Sends t tag o)
      sent_found = (
        subst (λ (n : ℕ). t < n) (sym (length-map s.tiles record_in)) tile_in,
        ap (λ (b : ProcessorRecord). next_operation_of b.following) record_here ∙ parts.0,
        ap (λ (b : ProcessorRecord). slice_get b.tags tag) record_here ∙ parts.1,
        addressed,
      )

      sent_records : Whole (tiles_of d.shape) tags opening (flight_of d.words sent_state sent_ghost) order
      sent_records = subst (λ (f : Flight). Whole (tiles_of d.shape) tags opening f order) (sym sent_flight)
          (subst (λ (xs : List LinearizationPoint). Whole (tiles_of d.shape) tags opening (moved (tiles_of d.shape) (flight_of d.words s g) (Sends t tag o)) xs)
          (append-nil order)
          (sends_steps (tiles_of d.shape) tags opening (flight_of d.words s g) order t tag o 0 st.flight sent_found).whole)

      unreported : (tile_at s t).processor.reported ≡ true → ⊥
      unreported h = ended (tile_at s t).processor.operations.following o (st.reported.finished t h) parts.0

      sent_reported : Reported d sent_state
      sent_reported = record {
        counts = st.reported.counts ∙ sym (count_set (λ (x : TileState). x.processor.reported) s.tiles t sent_tile no_tile refl);
        finished = λ u h. ⊎_elim
            (λ (e : u ≡ t). absurd (unreported
            (ap (λ (v : ℕ). (tile_at s v).processor.reported) (sym e) ∙ (sym (part_kept (λ (x : TileState). x.processor.reported) refl u) ∙ h))))
            (λ (other : u ≢ t). let k = tile_other u other in rw k (st.reported.finished u (ap (λ (x : TileState). x.processor.reported) (sym k) ∙ h)))
            (cases_eq u t);
        seen = λ u h. st.reported.seen u (sym (part_kept (λ (x : TileState). x.processor.seen) refl u) ∙ h);
      }

      sent_rings : AreRings d.depth sent_state.around
      sent_rings x within =
          let count : length sent_state.around.rings ≡ length s.around.rings = length-set s.around.rings lane _ in
          ⊎_elim
          (λ (e : x ≡ lane). subst (λ (y : ℕ). IsRing d.depth (ring sent_state.around.rings y)) (sym e)
          (subst (λ (r : Ring). IsRing d.depth r) (sym (changed_here s.around lane (put_in_ring head) lane_here))
          (put_ring d.depth (ring s.around.rings lane) (st.rings lane lane_here) head (head_some (packet.Request asks) proper.spelled) credit)))
          (λ (other : x ≢ lane). subst (λ (r : Ring). IsRing d.depth r) (sym (changed_other s.around lane (put_in_ring head) x other))
          (st.rings x (subst (λ (n : ℕ). x < n) count within)))
          (cases_eq x lane)

      -- What holds of every reached state is kept by the send of a head flit.
      pub sent_stands : Stands d tags opening sent_state sent_ghost order
      sent_stands = record {
        tiles = length-set s.tiles t sent_tile ∙ st.tiles;
        size = st.size;
        words = st.words;
        rings = sent_rings;
        lines = words_kept (net_of d) g.net (InjectHead lane parcel) net st.lines st.routes can_inject;
        routes = routes_kept (net_of d) g.net (InjectHead lane parcel) net st.lines st.routes can_inject;
        mirrors = sent_mirrors;
        flight = sent_records;
        carries = sent_carries;
        phases = λ b. let k = part_kept (λ (x : TileState). x.bank) refl b in rw k (st.phases b);
        reported = sent_reported;
      }
