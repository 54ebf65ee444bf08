-- What holds of every reached state holds at first.
use Rattle.std.proofs.Common.{◌≡◌, ◌↔◌, ⊎_elim, ℕ, zero, suc, ◌+◌, ◌<◌, ◌≤◌, Bool, true, false, cond, List, [], ◌∷◌, ◌++◌, map, length, take, replicate}
use Rattle.std.proofs.Common.{Option, Some, None, All, refl, sym, ◌∙◌, ap, subst, arith, slice_get, slice_index, slice_index_or}
use Rattle.std.specs.Prelude.{count_by, option_to_list}
use Rattle.std.proofs.lemmas.Bool.{cases_lt}
use Rattle.std.proofs.lemmas.List.{length-map, length-replicate, get_or-replicate, get_or_past, length-append, get_or_push, take_at}
use Rattle.std.proofs.lemmas.List.Elements.{All-nil}
use Rattle.std.proofs.lemmas.Option.{slice_get_within, get_or_from_slice_get}
use Rattle.torus.specs.Shape.{tiles_of, dims_of}
use Rattle.torus.specs.declared.step.OpId.{OpId}
use Rattle.packet.specs.declared.kinds.Operation.{Operation}
use Rattle.packet.specs.declared.kinds.Request.{Request as Asking}
use Rattle.packet.specs.declared.kinds.Response.{Response as Telling}
use Rattle.script_lines.specs.declared.line.Line.{Line}
use Rattle.home_bank.specs.declared.entry.Entry.{Entry}
use Rattle.one_order.specs.Following.{first_of, is_finished}
use Rattle.one_order.specs.declared.answer.Answer.{Answer}
use Rattle.one_order.specs.Observed.{Observed, list_at}
use Rattle.one_order.specs.Events.{nothing_yet}
use Rattle.one_order.proofs.Lists.{list_at_none, total_none}
use Rattle.one_order.proofs.AccountKept.{account_none}
use Rattle.channel_number.specs.Order.{channel_count}
use Rattle.flit_buffer.specs.Places.{Ring, IsRing, empty_ring}
use Rattle.flit_buffer.specs.Surroundings.{ring, no_ring}
use Rattle.wormhole.specs.Net.{Parcel}
use Rattle.wormhole.specs.State.{empty, empty_line}
use Rattle.wormhole.proofs.Reached.{words_empty, routes_empty}
use Rattle.one_order.specs.ProcessorRecord.{ProcessorRecord, no_processor}
use Rattle.one_order.proofs.Whole.{Whole}
use Rattle.one_order.proofs.Parts.{tags_of, same_shown}
use Rattle.one_order.proofs.Counts.{home_total_none}
use Rattle.one_order.proofs.Telling.{telling_none}
use Rattle.one_order.proofs.Transport.{Holds, sound_none}
use Rattle.channel_number.specs.Ports.{port_count, input_channel}
use Rattle.router.specs.Table.{latch_of, output_owned}
use Rattle.tile.specs.Tile.{Design, TileState}
use Rattle.core_laws.specs.Core.{Load, design_of, first_state, first_tile, show}
use Rattle.core_laws.proofs.Projection.{net_of, request_parcel, response_parcel}
use Rattle.core_laws.proofs.ResponseLists.{no_head}
use Rattle.core_laws.specs.Delivery.{Notice, notice_by}
use Rattle.core_laws.proofs.Stands.{Ghost, Stands, Mirrors, Carries, IsLane, IsInPhase, IsProperRequest, IsProperResponse, tile_at, no_tile, flight_of}
use Rattle.core_laws.proofs.Stands.{in_course, last_of, unsent, asked_between, told_between, served_requests, responses_from}

-- a state of the first tiles
first_by : (dims tags : ℕ) (P : TileState → Type 0) → ((lines : List Line) → P (first_tile dims tags lines)) → (scripts : List (List Line)) (t : ℕ)
    → t < length scripts → P (slice_index_or (map (first_tile dims tags) scripts) t no_tile)
first_by dims tags P new [] t h = absurd (omega arith)
first_by dims tags P new (lines ∷ scripts) zero h = new lines
first_by dims tags P new (lines ∷ scripts) (suc t) h = first_by dims tags P new scripts t (omega arith)

first_any : (dims tags : ℕ) (P : TileState → Type 0) → ((lines : List Line) → P (first_tile dims tags lines)) → P no_tile → (scripts : List (List Line)) (t : ℕ)
    → P (slice_index_or (map (first_tile dims tags) scripts) t no_tile)
first_any dims tags P new none [] t = none
first_any dims tags P new none (lines ∷ scripts) zero = new lines
first_any dims tags P new none (lines ∷ scripts) (suc t) = first_any dims tags P new none scripts t

-- a part of the first tiles that is the same of all
part_first : {A : Type 0} (f : TileState → A) (x : A) (dims tags : ℕ) → ((lines : List Line) → f (first_tile dims tags lines) ≡ x)
    → (scripts : List (List Line)) (n : ℕ) → length scripts ≡ n
    → map f (map (first_tile dims tags) scripts) ≡ replicate n x
part_first f x dims tags e [] zero h = refl
part_first f x dims tags e [] (suc n) h = absurd (omega arith)
part_first f x dims tags e (lines ∷ scripts) zero h = absurd (omega arith)
part_first f x dims tags e (lines ∷ scripts) (suc n) h =
    ap (λ y. y ∷ map f (map (first_tile dims tags) scripts)) (e lines) ∙ ap (λ xs. x ∷ xs) (part_first f x dims tags e scripts n (omega arith))

record_first : {A : Type 0} (f : ProcessorRecord → A) (x : A) (dims tags : ℕ) → ((lines : List Line) → f (first_tile dims tags lines).processor.operations ≡ x)
    → (scripts : List (List Line)) (n : ℕ) → length scripts ≡ n
    → map f (map (λ (t : TileState). t.processor.operations) (map (first_tile dims tags) scripts)) ≡ replicate n x
record_first f x dims tags e [] zero h = refl
record_first f x dims tags e [] (suc n) h = absurd (omega arith)
record_first f x dims tags e (lines ∷ scripts) zero h = absurd (omega arith)
record_first f x dims tags e (lines ∷ scripts) (suc n) h =
    ap (λ y. y ∷ map f (map (λ (t : TileState). t.processor.operations) (map (first_tile dims tags) scripts))) (e lines)
    ∙ ap (λ xs. x ∷ xs) (record_first f x dims tags e scripts n (omega arith))

none_reported : (dims tags : ℕ) (scripts : List (List Line)) → count_by (λ (t : TileState). t.processor.reported) (map (first_tile dims tags) scripts) ≡ 0
none_reported dims tags [] = refl
none_reported dims tags (lines ∷ scripts) = none_reported dims tags scripts

none_held : (n m p k i : ℕ) → Holds (replicate n (replicate m None)) p k i → ⊥
none_held n m p k i h = ⊎_elim
    (λ (in_p : p < n).
    let e : slice_get (replicate m None) k ≡ Some (Some (record { 0 = i })) =
    sym (ap (λ xs. slice_get xs k) (get_or-replicate n p (replicate m None) [] in_p)) ∙ h in
    let within = slice_get_within (replicate m None) k (Some (record { 0 = i })) e in
    let len = length-replicate {A = Option OpId} m None in
    let below : k < m = omega (arith, within, len) in
    let f : ◌≡◌ {A = Option OpId} None (Some (record { 0 = i })) =
    sym (get_or-replicate m k None None below) ∙ get_or_from_slice_get (replicate m None) k (Some (record { 0 = i })) None e in
    cc)
    (λ (past : n ≤ p).
    let len = length-replicate n (replicate {A = Option OpId} m None) in
    let e : ◌≡◌ {A = Option (Option OpId)} None (Some (Some (record { 0 = i }))) =
    sym (ap (λ xs. slice_get xs k) (get_or_past (replicate n (replicate m None)) p [] (omega (arith, len)))) ∙ h in
    cc)
    (cases_lt p n)

none_at : {A : Type 0} (n p : ℕ) → slice_index_or {A = Option A} (replicate n None) p None ≡ None
none_at {A} n p = ⊎_elim (λ (l : p < n). get_or-replicate n p None None l)
    (λ (g : n ≤ p). let len = length-replicate {A = Option A} n None in get_or_past (replicate n None) p None (omega (arith, len))) (cases_lt p n)

module _ (l : Load) (some : 0 < l.depth) (count : length l.scripts ≡ tiles_of l.shape) where
  abbrev d : Design
  d = design_of l

  abbrev n : ℕ
  n = tiles_of l.shape

  abbrev pub first_ghost : Ghost
  first_ghost = record { net = empty (net_of d); asked = []; told = []; requests = replicate n []; taken = replicate n [] }

  within : (t : ℕ) → t < n → t < length l.scripts
  within t h = subst (λ (k : ℕ). t < k) (sym count) h

  ring_first : (x : ℕ) → x < channel_count l.shape → ring (first_state l).around.rings x ≡ empty_ring l.depth
  ring_first x h = get_or-replicate (channel_count l.shape) x (empty_ring l.depth) no_ring h

  depth_is : (net_of d).depth ≡ l.depth
  unfolding net_of
  depth_is = refl

  lane_first : (x : ℕ) → x < channel_count l.shape → IsLane (ring (first_state l).around.rings x).channel (empty_line (net_of d))
  lane_first x h = let e = ring_first x h in record {
    flits = ap (λ (c : Ring). c.channel.flits) (sym e);
    held = depth_is ∙ ap (λ (c : Ring). c.channel.held) (sym e);
    returning = ap (λ (c : Ring). c.channel.returning) (sym e);
  }

  first_mirrors : Mirrors d (first_state l) (empty (net_of d)).lines
  first_mirrors = record {
    count = length-replicate (channel_count l.shape) (empty_ring l.depth);
    rings = lane_first;
    ports = λ t h. first_by (dims_of l.shape) l.tags
        (λ w. (length w.router.latches ≡ port_count (dims_of l.shape)) × (length w.router.owned ≡ port_count (dims_of l.shape)))
        (λ lines. (length-replicate (port_count (dims_of l.shape)) None, length-replicate (port_count (dims_of l.shape)) None)) l.scripts t (within t h);
    latches = λ t i h k. first_by (dims_of l.shape) l.tags (λ w. None ≡ latch_of w.router i) (λ lines. sym (none_at (port_count (dims_of l.shape)) i)) l.scripts
        t (within t h);
    owners = λ t i o h k m. first_by (dims_of l.shape) l.tags
        (λ w. (◌≡◌ {A = Option ℕ} None (Some (input_channel l.shape t i))) ↔ (output_owned w.router i ≡ Some o))
        (λ lines. (λ e. absurd (cc), λ e. let f : ◌≡◌ {A = Option ℕ} None (Some o) = sym (none_at (port_count (dims_of l.shape)) i) ∙ e in absurd (cc)))
        l.scripts t (within t h);
    unowned = λ t o h k none. refl;
    outputs = λ t i o h. first_by (dims_of l.shape) l.tags (λ w. output_owned w.router i ≡ Some o → o < port_count (dims_of l.shape))
        (λ lines e. let f : ◌≡◌ {A = Option ℕ} None (Some o) = sym (none_at (port_count (dims_of l.shape)) i) ∙ e in absurd (cc)) l.scripts t (within t h);
    sends_requests = λ t h. first_by (dims_of l.shape) l.tags (λ w. [] ≡ w.processor.to_put) (λ lines. refl) l.scripts t (within t h);
    sends_replies = λ t h. first_by (dims_of l.shape) l.tags (λ w. [] ≡ in_course w.bank.to_put) (λ lines. sym (ap (λ (b : Bool). cond b [] []) no_head))
        l.scripts t (within t h);
    takes_replies = λ t h. first_by (dims_of l.shape) l.tags (λ w. [] ≡ w.processor.so_far) (λ lines. refl) l.scripts t (within t h);
    takes_requests = λ t h. first_by (dims_of l.shape) l.tags (λ w. [] ≡ w.bank.so_far) (λ lines. refl) l.scripts t (within t h);
  }

  first_memory : take (length l.opening) (l.opening ++ 0 ∷ []) ≡ l.opening
  first_memory = take_at l.opening (0 ∷ []) (length l.opening) refl

  pub first_shown : show (length l.opening) (first_state l) ≡ nothing_yet n l.opening
  first_shown = same_shown _ _ _ _ _ _ _ _
      (record_first (λ (b : ProcessorRecord). b.issued) [] (dims_of l.shape) l.tags (λ lines. refl) l.scripts n count)
      (record_first (λ (b : ProcessorRecord). b.answers) [] (dims_of l.shape) l.tags (λ lines. refl) l.scripts n count)
      (part_first (λ (t : TileState). t.bank.entries) [] (dims_of l.shape) l.tags (λ lines. refl) l.scripts n count)
      first_memory

  list_at_replicate : {A : Type 0} (k p : ℕ) (xs : List A) → p < k → list_at (replicate k xs) p ≡ xs
  list_at_replicate k p xs h = get_or-replicate k p xs [] h

  followed_first : (scripts : List (List Line)) (p : ℕ) → let b =
      slice_index_or (map (λ (t : TileState). t.processor.operations) (map (first_tile (dims_of l.shape) l.tags) scripts)) p no_processor in
      b.following.issued ≡ length b.issued
  unfolding first_of
  followed_first [] p = refl
  followed_first (lines ∷ scripts) zero = refl
  followed_first (lines ∷ scripts) (suc p) = followed_first scripts p

  first_records : Whole n l.tags l.opening (flight_of (length l.opening) (first_state l) first_ghost) []
  first_records =
      let tagged : tags_of (flight_of (length l.opening) (first_state l) first_ghost) ≡ replicate n (replicate l.tags None) =
      record_first (λ (b : ProcessorRecord). b.tags) (replicate l.tags None) (dims_of l.shape) l.tags (λ lines. refl) l.scripts n count in
      let unissued : (p i : ℕ) (o : Operation) → slice_get (list_at (show (length l.opening) (first_state l)).issued p) i ≡ Some o → ⊥ = λ p i o h.
      let e : ◌≡◌ {A = Option Operation} None (Some o) =
      sym (ap (λ (y : Observed). slice_get (list_at y.issued p) i) first_shown ∙ ap (λ xs. slice_get xs i) (list_at_none {A = Operation} n p)) ∙ h in
      cc in
      record {
        account = rw first_shown (account_none n l.tags l.opening);
        sound = rw tagged (sound_none n l.opening (show (length l.opening) (first_state l)) (replicate n (replicate l.tags None))
            (length-replicate n (replicate l.tags None)) (none_held n l.tags) unissued);
        tag_counts = λ p h. ap (λ ts. length (list_at ts p)) tagged
            ∙ (ap length (list_at_replicate n p (replicate l.tags None) h) ∙ length-replicate l.tags None);
        followed = followed_first l.scripts;
        counted = rw first_shown (record {
          asked = omega (arith, total_none Entry n, total_none Operation n);
          told = omega (arith, total_none Answer n, total_none Entry n);
          homes = λ b. let z : 0 + 0 ≡ 0 = omega arith in ap (λ (k : ℕ). 0 + k) (ap length (list_at_none {A = Entry} n b)) ∙ (z ∙ sym (home_total_none n b n));
        });
        telling = rw first_shown (telling_none (nothing_yet n l.opening) (λ b place e h.
            let no : None ≡ Some e = sym (ap (λ xs. slice_get xs place) (list_at_none {A = Entry} n b)) ∙ h in
            cc));
      }

  requests_none : (p : ℕ) → list_at {A = Asking} (replicate n []) p ≡ []
  requests_none p = list_at_none n p

  taken_none : (p : ℕ) → list_at {A = Telling} (replicate n []) p ≡ []
  taken_none p = list_at_none n p

  abbrev Of : (ℕ → TileState → Type 0) → Type 0
  Of P = (t : ℕ) → P t (tile_at (first_state l) t)

  every : (P : ℕ → TileState → Type 0) → ((t : ℕ) (lines : List Line) → P t (first_tile (dims_of l.shape) l.tags lines)) → ((t : ℕ) → P t no_tile) → Of P
  every P new none t = first_any (dims_of l.shape) l.tags (P t) (new t) (none t) l.scripts t

  first_carries : Carries d (first_state l) first_ghost
  first_carries = record {
    processors = length-replicate n [];
    takers = length-replicate n [];
    requests_sent = λ p h. rw (requests_none p) refl;
    requests_proper = λ p. rw (requests_none p) (All-nil (λ (r : Asking). IsProperRequest d r × (r.source ≡ p)));
    requests_whole = λ b h. first_by (dims_of l.shape) l.tags
        (λ w. ◌≡◌ {A = List Parcel} [] (map (request_parcel l.shape) (served_requests n b w.bank.entries ++ option_to_list w.bank.waiting))) (λ lines. refl)
        l.scripts b (within b h);
    waiting_proper = λ b r. first_any (dims_of l.shape) l.tags (λ w. w.bank.waiting ≡ Some r → IsProperRequest d r × (r.destination ≡ b))
        (λ lines e. absurd (cc)) (λ e. absurd (cc)) l.scripts b;
    asked = λ p b h k. rw (requests_none p)
        (first_by (dims_of l.shape) l.tags (λ w. ◌≡◌ {A = List Asking} [] (asked_between p b (served_requests n b w.bank.entries) ++ [])) (λ lines. refl)
        l.scripts b (within b k));
    replies_sent = λ b h. first_by (dims_of l.shape) l.tags
        (λ w. ◌≡◌ {A = List Parcel} (map (response_parcel l.shape) (responses_from b 0 w.bank.entries))
        ([] ++ map (response_parcel l.shape) (unsent w.bank.to_put (responses_from b 0 w.bank.entries))))
        (λ lines. sym (ap (λ (x : Bool). map (response_parcel l.shape) (cond x (last_of []) [])) no_head)) l.scripts b (within b h);
    replies_proper = λ b h. first_by (dims_of l.shape) l.tags
        (λ w. All (λ (r : Telling). IsProperResponse d r × (r.source ≡ b)) (responses_from b 0 w.bank.entries))
        (λ lines. All-nil (λ (r : Telling). IsProperResponse d r × (r.source ≡ b))) l.scripts b (within b h);
    replies_whole = λ p h. rw (taken_none p) refl;
    told = λ b p h k. rw (taken_none p)
        (first_by (dims_of l.shape) l.tags (λ w. ◌≡◌ {A = List Telling} (told_between b p (responses_from b 0 w.bank.entries)) []) (λ lines. refl) l.scripts b
        (within b h));
    issued = λ p. rw (requests_none p)
        (first_any (dims_of l.shape) l.tags (λ w. ◌≡◌ {A = List Operation} [] w.processor.operations.issued) (λ lines. refl) refl l.scripts p);
    answered = λ p. rw (taken_none p)
        (first_any (dims_of l.shape) l.tags (λ w. ◌≡◌ {A = List Notice} (map (notice_by p) w.processor.operations.answers) []) (λ lines. refl) refl l.scripts
        p);
  }

  pub begins : Stands d l.tags l.opening (first_state l) first_ghost []
  begins = record {
    tiles = length-map l.scripts (first_tile (dims_of l.shape) l.tags) ∙ count;
    size = length-append l.opening (0 ∷ []);
    words = refl;
    rings = λ x h.
        let low : x < channel_count l.shape = subst (λ (k : ℕ). x < k) (length-replicate (channel_count l.shape) (empty_ring l.depth)) h in
        subst (λ (c : Ring). IsRing l.depth c) (sym (ring_first x low))
        (record { channel = record { adds_up = omega arith; flits_are_words = λ i k. absurd (omega arith) }; front = some });
    lines = words_empty (net_of d);
    routes = routes_empty (net_of d);
    mirrors = first_mirrors;
    flight = first_records;
    carries = first_carries;
    phases = λ b. first_any (dims_of l.shape) l.tags (λ w. IsInPhase b w.bank)
        (λ lines. record {
          waits = λ r e. absurd (cc);
          replies = λ e. absurd (e refl);
          fresh = λ e. let z : ◌≡◌ {A = Bool} true false = sym e ∙ no_head in
              absurd (cc);
        })
        (record { waits = λ r e. absurd (cc); replies = λ e. absurd (e refl); fresh = λ e. let z : ◌≡◌ {A = Bool} true false = sym e ∙ no_head in absurd (cc) })
        l.scripts b;
    reported = record {
      counts = get_or_push l.opening 0 0 (length l.opening) refl ∙ sym (none_reported (dims_of l.shape) l.tags l.scripts);
      finished = λ t. first_any (dims_of l.shape) l.tags (λ w. w.processor.reported ≡ true → is_finished w.processor.operations.following ≡ true)
          (λ lines e. absurd (cc)) (λ e. absurd (cc)) l.scripts t;
      seen = λ t. first_any (dims_of l.shape) l.tags (λ w. w.processor.seen ≡ true → slice_index (l.opening ++ 0 ∷ []) (length l.opening) ≡ n)
          (λ lines e. absurd (cc)) (λ e. absurd (cc)) l.scripts t;
    };
  }
