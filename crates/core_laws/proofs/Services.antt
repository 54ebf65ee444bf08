-- A bank serves the request that waits: what holds of every reached state is kept.
use Rattle.std.proofs.Common.{◌≡◌, ◌≢◌, ⊎_elim, ℕ, ◌+◌, ◌<◌, ◌==◌, Bool, true, cond, List, [], ◌∷◌, ◌++◌, map, length, take, Option, Some}
use Rattle.std.proofs.Common.{None, All, refl, sym, ◌∙◌, ap, ap₂, subst, arith, slice_get, slice_index, slice_set, append_assoc, append-nil}
use Rattle.std.proofs.Common.{length-set, get_or-set_same, get_or-set_other}
use Rattle.std.specs.Prelude.{remove, ◌&&◌, option_to_list}
use Rattle.std.proofs.lemmas.Bool.{cases_eq, ne_eqb}
use Rattle.std.proofs.lemmas.List.{map-append, get_or-take}
use Rattle.std.proofs.Math.Seq.{take-set-lt}
use Rattle.std.proofs.lemmas.List.Elements.{filter-append, All-push}
use Rattle.std.proofs.lemmas.Option.{same_Some, slice_get-get_or}
use Rattle.torus.specs.Shape.{tiles_of}
use Rattle.torus.specs.declared.shape.Class.TheVariants.{Request, Reply}
use Rattle.packet.specs.declared.kinds.Packet.TheVariants as packet
use Rattle.packet.specs.declared.kinds.Request.{Request as Asking}
use Rattle.packet.specs.declared.kinds.Response.{Response as Telling}
use Rattle.packet.specs.declared.kinds.Reply.{Reply as Answering}
use Rattle.packet.specs.Memory.{new_word, reply_to}
use Rattle.home_bank.specs.declared.entry.Entry.{Entry}
use Rattle.home_bank.specs.ServiceList.{address_of, entry_of, response_of}
use Rattle.one_order.specs.Observed.{list_at}
use Rattle.one_order.specs.Order.{LinearizationPoint}
use Rattle.one_order.specs.Events.{points_of}
use Rattle.wormhole.specs.Net.{IsNet, Parcel}
use Rattle.wormhole.specs.Delivery.{whole}
use Rattle.one_order.specs.Flight.{Flight, Serves, moved, event, asked_place, reply_given, IsFound}
use Rattle.one_order.proofs.Whole.{Whole, any_steps}
use Rattle.packet.specs.Flits.{flits_of}
use Rattle.core_laws.specs.Heads.{carries_route}
use Rattle.home_bank.specs.BankTable.{BankState}
use Rattle.one_order.specs.ProcessorTable.{ProcessorState}
use Rattle.router.specs.Table.{RouterState, output_owned}
use Rattle.channel_number.specs.Ports.{injection_channel, ejection_channel}
use Rattle.tile.specs.Tile.{Design, TileState}
use Rattle.core_laws.specs.Core.{State, records_of, show}
use Rattle.core_laws.proofs.Projection.{net_of, request_parcel, response_parcel, first_flit}
use Rattle.core_laws.proofs.TileMoves.{IsHere, TileMoved}
use Rattle.core_laws.proofs.FlightSteps.{entries_in, moved_flight, part_at}
use Rattle.core_laws.proofs.ServesFound.{serves_found}
use Rattle.core_laws.proofs.ServiceNotes.{served_push, asked_elsewhere, asked_here}
use Rattle.core_laws.proofs.SendFacts.{count_set}
use Rattle.core_laws.specs.Delivery.{notice_by}
use Rattle.core_laws.proofs.Stands.{Ghost, Stands, Mirrors, Carries, Reported, IsInPhase, IsProperRequest, IsProperResponse, tile_at, no_tile, flight_of}
use Rattle.core_laws.proofs.Stands.{in_course, asked_between, told_between, served_requests, response_of_entry, responses_from, last_of}
use Rattle.core_laws.proofs.Stands.{unsent}
use Rattle.core_laws.proofs.ResponseLists.{responses_push, last_push, no_head, first_is_head}

module _ (d : Design) (net : IsNet (net_of d)) (tags : ℕ) (opening : List ℕ) (s : State) (g : Ghost) (order : List LinearizationPoint)
    (st : Stands d tags opening s g order)
    (t : ℕ) (t_in : t < tiles_of d.shape) (r : Asking) (waits : (tile_at s t).bank.waiting ≡ Some r) where
  abbrev tiles : ℕ
  tiles = tiles_of d.shape

  abbrev b : BankState
  b = (tile_at s t).bank

  abbrev a : ℕ
  a = address_of t tiles r.word

  abbrev m : List ℕ
  m = s.around.words

  abbrev reply : Answering
  reply = reply_to r.op (slice_index m a)

  abbrev e : Entry
  e = entry_of t tiles r reply

  abbrev q : Telling
  q = response_of t (length b.entries) r reply

  abbrev served_tile : TileState
  served_tile = record (tile_at s t)
      { bank = record { entries = b.entries ++ e ∷ []; so_far = b.so_far; waiting = None; to_put = flits_of (packet.Response q) } }

  -- the state after the service, and what is noted then
  abbrev pub served_state : State
  served_state = record {
    tiles = slice_set s.tiles t served_tile;
    around = record { rings = s.around.rings; words = slice_set m a (new_word r.op (slice_index m a)) };
  }

  abbrev pub served_ghost : Ghost
  served_ghost = record { net = g.net; asked = remove g.asked (asked_place g.asked r); told = g.told ++ q ∷ []; requests = g.requests; taken = g.taken }

  found : IsFound (length opening) (flight_of d.words s g) (Serves r) × IsHere tiles d.words t (Serves r)
  found = serves_found d net tags opening s g order st t r waits

  below : a < d.words
  below = found.1.1

  here : r.destination ≡ t
  here = found.1.0

  phase : (b.so_far ≡ []) × (b.to_put ≡ [])
  phase = (st.phases t).waits r waits

  tile_in : t < length s.tiles
  tile_in = subst (λ (k : ℕ). t < k) (sym st.tiles) t_in

  tile_new : tile_at served_state t ≡ served_tile
  tile_new = get_or-set_same s.tiles t served_tile no_tile tile_in

  tile_other : (u : ℕ) → u ≢ t → tile_at served_state u ≡ tile_at s u
  tile_other u other = get_or-set_other s.tiles t u served_tile no_tile other

  part_kept : {A : Type 0} (f : TileState → A) → f served_tile ≡ f (tile_at s t) → (u : ℕ) → f (tile_at served_state u) ≡ f (tile_at s u)
  part_kept f same u = ⊎_elim
      (λ (h : u ≡ t). ap (λ (v : ℕ). f (tile_at served_state v)) h ∙ (ap f tile_new ∙ (same ∙ ap (λ (v : ℕ). f (tile_at s v)) (sym h))))
      (λ (other : u ≢ t). ap f (tile_other u other))
      (cases_eq u t)

  -- what holds of the bank's tile and of each other holds of all
  by_tile : (P : ℕ → TileState → Type 0) → P t served_tile → ((u : ℕ) → u ≢ t → P u (tile_at s u)) → (u : ℕ) → P u (tile_at served_state u)
  by_tile P new old u = ⊎_elim
      (λ (h : u ≡ t). subst (λ (v : ℕ). P v (tile_at served_state v)) (sym h) (subst (P t) (sym tile_new) new))
      (λ (other : u ≢ t). subst (P u) (sym (tile_other u other)) (old u other))
      (cases_eq u t)

  module _ (proper : IsProperResponse d q) where
    starts : carries_route (first_flit (flits_of (packet.Response q))) ≡ true
    starts = first_is_head (packet.Response q) proper.spelled

    served_mirrors : Mirrors d served_state served_ghost.net.lines
    served_mirrors = record {
      count = st.mirrors.count;
      rings = st.mirrors.rings;
      ports = λ u h. let k = part_kept (λ (w : TileState). w.router) refl u in rw k (st.mirrors.ports u h);
      latches = λ u i h l. let k = part_kept (λ (w : TileState). w.router) refl u in rw k (st.mirrors.latches u i h l);
      owners = λ u i o h l n. let k = part_kept (λ (w : TileState). w.router) refl u in rw k (st.mirrors.owners u i o h l n);
      unowned = λ u o h l none. let k = part_kept (λ (w : TileState). w.router) refl u in
          st.mirrors.unowned u o h l (λ i owns. none i (ap (λ (x : RouterState). output_owned x i) k ∙ owns));
      outputs = λ u i o h owns. let k = part_kept (λ (w : TileState). w.router) refl u in
          st.mirrors.outputs u i o h (ap (λ (x : RouterState). output_owned x i) (sym k) ∙ owns);
      sends_requests = λ u h. let k = part_kept (λ (w : TileState). w.processor) refl u in rw k (st.mirrors.sends_requests u h);
      sends_replies = by_tile (λ u w. u < tiles_of d.shape → (g.net.lines (injection_channel d.shape u Reply)).rest ≡ in_course w.bank.to_put)
          (λ h. st.mirrors.sends_replies t h
          ∙ (ap in_course phase.1 ∙ (ap (λ (x : Bool). cond x [] []) no_head ∙ sym (ap (λ (x : Bool). cond x [] (flits_of (packet.Response q))) starts))))
          (λ u other h. st.mirrors.sends_replies u h);
      takes_replies = λ u h. let k = part_kept (λ (w : TileState). w.processor) refl u in rw k (st.mirrors.takes_replies u h);
      takes_requests = λ u h. st.mirrors.takes_requests u h ∙ sym (part_kept (λ (w : TileState). w.bank.so_far) refl u);
    }

    responses_new : responses_from t 0 (b.entries ++ e ∷ []) ≡ responses_from t 0 b.entries ++ q ∷ []
    responses_new = responses_push t 0 b.entries e
        ∙ ap (λ (n : ℕ). responses_from t 0 b.entries ++ response_of_entry t n e ∷ []) (let z : 0 + length b.entries ≡ length b.entries = omega arith in z)

    served_carries : Carries d served_state served_ghost
    served_carries = record {
      processors = st.carries.processors;
      takers = st.carries.takers;
      requests_sent = st.carries.requests_sent;
      requests_proper = st.carries.requests_proper;
      requests_whole = by_tile (λ u w. u < tiles_of d.shape
          → whole g.net (ejection_channel d.shape u Request)
          ≡ map (request_parcel d.shape) (served_requests tiles u w.bank.entries ++ option_to_list w.bank.waiting))
          (λ h. st.carries.requests_whole t h
          ∙ ap (map (request_parcel d.shape))
          (ap (λ (x : Option Asking). served_requests tiles t b.entries ++ option_to_list x) waits
          ∙ (sym (served_push d net tags opening s g order st t t_in r waits reply) ∙ sym (append-nil (served_requests tiles t (b.entries ++ e ∷ []))))))
          (λ u other h. st.carries.requests_whole u h);
      waiting_proper = by_tile (λ u w. (x : Asking) → w.bank.waiting ≡ Some x → IsProperRequest d x × (x.destination ≡ u)) (λ x h. absurd (cc))
          (λ u other. st.carries.waiting_proper u);
      asked = λ p u h l. by_tile (λ c w. c < tiles → asked_between p c (list_at g.requests p)
          ≡ asked_between p c (served_requests tiles c w.bank.entries) ++ asked_between p c served_ghost.asked)
          (λ k. asked_here d net tags opening s g order st t t_in r waits reply p h)
          (λ c other k. asked_elsewhere d net tags opening s g order st t t_in r waits p c h k other) u l;
      replies_sent = by_tile (λ u w. u < tiles_of d.shape → map (response_parcel d.shape) (responses_from u 0 w.bank.entries)
          ≡ (g.net.notes (injection_channel d.shape u Reply)).sent ++ map (response_parcel d.shape) (unsent w.bank.to_put (responses_from u 0 w.bank.entries)))
          (λ h.
          let R : Telling → Parcel = response_parcel d.shape in
          let old : map R (responses_from t 0 b.entries) ≡ (g.net.notes (injection_channel d.shape t Reply)).sent =
          st.carries.replies_sent t h
          ∙ (ap (λ (xs : List ℕ). (g.net.notes (injection_channel d.shape t Reply)).sent ++ map R (unsent xs (responses_from t 0 b.entries))) phase.1
          ∙ (ap (λ (x : Bool). (g.net.notes (injection_channel d.shape t Reply)).sent ++ map R (cond x (last_of (responses_from t 0 b.entries)) [])) no_head
          ∙ append-nil _)) in
          let last : unsent (flits_of (packet.Response q)) (responses_from t 0 (b.entries ++ e ∷ [])) ≡ q ∷ [] =
          ap (λ (x : Bool). cond x (last_of (responses_from t 0 (b.entries ++ e ∷ []))) []) starts
          ∙ (ap last_of responses_new ∙ last_push (responses_from t 0 b.entries) q) in
          ap (map R) responses_new ∙ (map-append R (responses_from t 0 b.entries) (q ∷ [])
          ∙ ap₂ (λ (xs : List Parcel) (ys : List Telling). xs ++ map R ys) old (sym last)))
          (λ u other h. st.carries.replies_sent u h);
      replies_proper = by_tile (λ u w. u < tiles_of d.shape → All (λ x. IsProperResponse d x × (x.source ≡ u)) (responses_from u 0 w.bank.entries))
          (λ h. subst (λ (xs : List Telling). All (λ x. IsProperResponse d x × (x.source ≡ t)) xs) (sym responses_new)
          (All-push (λ x. IsProperResponse d x × (x.source ≡ t)) (responses_from t 0 b.entries) q (st.carries.replies_proper t h) (proper, refl)))
          (λ u other h. st.carries.replies_proper u h);
      replies_whole = st.carries.replies_whole;
      told = by_tile (λ u w. (p : ℕ) → u < tiles_of d.shape → p < tiles_of d.shape
          → told_between u p (responses_from u 0 w.bank.entries) ≡ told_between u p (list_at g.taken p) ++ told_between u p served_ghost.told)
          (λ p h l.
          let F : List Telling → List Telling = told_between t p in
          ap F responses_new ∙ (filter-append _ (responses_from t 0 b.entries) (q ∷ [])
          ∙ (ap (λ (xs : List Telling). xs ++ F (q ∷ [])) (st.carries.told t p h l)
          ∙ (append_assoc (F (list_at g.taken p)) (F g.told) (F (q ∷ []))
          ∙ ap (λ (xs : List Telling). F (list_at g.taken p) ++ xs) (sym (filter-append _ g.told (q ∷ [])))))))
          (λ u other p h l.
          let F : List Telling → List Telling = told_between u p in
          let none : F (q ∷ []) ≡ [] = ap (λ (x : Bool). cond (x && (q.destination == p)) (q ∷ []) []) (ne_eqb t u (λ f. other (sym f))) in
          st.carries.told u p h l ∙ ap (λ (xs : List Telling). F (list_at g.taken p) ++ xs)
          (sym (append-nil (F g.told)) ∙ (ap (λ (xs : List Telling). F g.told ++ xs) (sym none) ∙ sym (filter-append _ g.told (q ∷ [])))));
      issued = λ p. st.carries.issued p ∙ sym (part_kept (λ (w : TileState). w.processor.operations.issued) refl p);
      answered = λ p. ap (map (notice_by p)) (part_kept (λ (w : TileState). w.processor.operations.answers) refl p) ∙ st.carries.answered p;
    }

    served_phases : (u : ℕ) → IsInPhase u (tile_at served_state u).bank
    served_phases = by_tile (λ u w. IsInPhase u w.bank)
        (record {
          waits = λ x h. absurd (cc);
          replies = λ h. phase.0;
          fresh = λ h. ap (map (λ x. flits_of (packet.Response x))) (ap last_of responses_new ∙ last_push (responses_from t 0 b.entries) q);
        })
        (λ u other. st.phases u)

    done_kept : slice_index served_state.around.words d.words ≡ slice_index s.around.words d.words
    done_kept = get_or-set_other m a d.words (new_word r.op (slice_index m a)) 0 (let z = below in omega arith)

    served_reported : Reported d served_state
    served_reported = record {
      counts = done_kept ∙ (st.reported.counts ∙ sym (count_set (λ (w : TileState). w.processor.reported) s.tiles t served_tile no_tile refl));
      finished = λ u h. let k = part_kept (λ (w : TileState). w.processor) refl u in
          rw k (st.reported.finished u (ap (λ (p : ProcessorState). p.reported) (sym k) ∙ h));
      seen = λ u h. done_kept ∙ st.reported.seen u (sym (part_kept (λ (w : TileState). w.processor.seen) refl u) ∙ h);
    }

    tile_there : slice_get s.tiles t ≡ Some (tile_at s t)
    tile_there = slice_get-get_or s.tiles t no_tile tile_in

    served_moved : TileMoved tiles d.words t (tile_at s t) s.around served_tile served_state.around (Some (Serves r))
    served_moved =
        let seen : slice_index (take d.words m) a ≡ slice_index m a = get_or-take d.words m a 0 below in
        record {
          operations = refl;
          entries = ap (λ (v : ℕ). b.entries ++ entry_of t tiles r (reply_to r.op v) ∷ []) (sym seen);
          memory = take-set-lt d.words m a (new_word r.op (slice_index m a)) below ∙ ap (λ (v : ℕ). slice_set (take d.words m) a (new_word r.op v)) (sym seen);
        }

    seen_reply : (reply_given tiles (flight_of d.words s g) r) ≡ reply
    seen_reply =
        let address : address_of r.destination tiles r.word ≡ a = ap (λ (k : ℕ). address_of k tiles r.word) here in
        ap (λ (k : ℕ). reply_to r.op (slice_index (take d.words m) k)) address ∙ ap (reply_to r.op) (get_or-take d.words m a 0 below)

    -- what the moved flight says of the packets is what is noted
    pub told_same : (moved tiles (flight_of d.words s g) (Serves r)).told ≡ served_ghost.told
    told_same =
        let entries : list_at (show d.words s).entries t ≡ b.entries = part_at entries_in [] s.tiles t (tile_at s t) tile_there in
        ap (λ (k : ℕ). g.told ++ response_of k (length (list_at (show d.words s).entries k)) r (reply_given tiles (flight_of d.words s g) r) ∷ []) here
        ∙ ap₂ (λ (es : List Entry) (v : Answering). g.told ++ response_of t (length es) r v ∷ []) entries seen_reply

    served_records : (n : ℕ) → Whole tiles tags opening (flight_of d.words served_state served_ghost)
        (order ++ points_of (event (flight_of d.words s g) (Serves r)) n)
    served_records n =
        let after : Flight = moved tiles (flight_of d.words s g) (Serves r) in
        let w = (any_steps tiles tags opening (flight_of d.words s g) order n (Some (Serves r)) st.flight
        (λ k h. subst (IsFound (length opening) (flight_of d.words s g)) (same_Some _ _ h) found.0)).whole in
        let same = moved_flight d s g.asked g.told t (tile_at s t) served_tile served_state.around (Some (Serves r)) tile_there served_moved
        (λ k h. subst (IsHere tiles d.words t) (same_Some _ _ h) found.1) in
        subst (λ (f : Flight). Whole tiles tags opening f (order ++ points_of (event (flight_of d.words s g) (Serves r)) n))
        (sym same ∙ ap (λ (xs : List Telling).
        record {
          processors = records_of served_state;
          entries = (show d.words served_state).entries;
          memory = (show d.words served_state).memory;
          asked = served_ghost.asked;
          told = xs;
        }) told_same) w

    -- What holds of every reached state is kept by a service.
    pub served_stands : (n : ℕ) → Stands d tags opening served_state served_ghost (order ++ points_of (event (flight_of d.words s g) (Serves r)) n)
    served_stands n = record {
      tiles = length-set s.tiles t served_tile ∙ st.tiles;
      size = length-set m a _ ∙ st.size;
      words = st.words;
      rings = st.rings;
      lines = st.lines;
      routes = st.routes;
      mirrors = served_mirrors;
      flight = served_records n;
      carries = served_carries;
      phases = served_phases;
      reported = served_reported;
    }
