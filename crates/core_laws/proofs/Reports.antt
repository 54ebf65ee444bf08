-- A processor reports that its script is finished, or sees that all have: what holds of every reached state is kept.
use Rattle.std.proofs.Common.{◌≡◌, ◌≢◌, ⊎_elim, ℕ, zero, suc, ◌+◌, ◌%◌, ◌^◌, ◌<◌, ◌≤◌, Bool, true, false, cond, List, [], ◌∷◌, map, length, take, Some, refl}
use Rattle.std.proofs.Common.{sym, ◌∙◌, ap, subst, arith, slice_get, slice_index, slice_index_or, slice_set, length-set, get_or-set_same, get_or-set_other}
use Rattle.std.specs.Prelude.{count_by}
use Rattle.std.proofs.lemmas.Bool.{cases_eq}
use Rattle.std.proofs.lemmas.List.{take-set-le}
use Rattle.std.proofs.lemmas.List.Sums.{count_by-le-length}
use Rattle.std.proofs.lemmas.Option.{slice_get-get_or}
use Rattle.std.proofs.Math.Nat.{mod-eq_of_lt}
use Rattle.torus.specs.Shape.{IsAccepted, tiles_of}
use Rattle.packet.specs.declared.kinds.Op.TheVariants as op
use Rattle.packet.specs.Memory.{new_word}
use Rattle.one_order.specs.Following.{is_finished}
use Rattle.one_order.specs.Order.{LinearizationPoint}
use Rattle.one_order.proofs.Counting.{count_cons}
use Rattle.wormhole.specs.Net.{IsNet}
use Rattle.one_order.specs.ProcessorRecord.{ProcessorRecord, no_processor}
use Rattle.one_order.specs.Flight.{Flight}
use Rattle.one_order.proofs.Whole.{Whole}
use Rattle.home_bank.specs.BankTable.{BankState}
use Rattle.router.specs.Table.{RouterState, output_owned}
use Rattle.tile.specs.Tile.{Design, TileState}
use Rattle.core_laws.specs.Core.{State}
use Rattle.core_laws.proofs.Projection.{net_of}
use Rattle.core_laws.proofs.FlightSteps.{record_in, entries_in, same_flight, part_stays}
use Rattle.core_laws.proofs.SendFacts.{count_set}
use Rattle.core_laws.specs.Delivery.{notice_by}
use Rattle.core_laws.proofs.Stands.{Ghost, Stands, Mirrors, Carries, Reported, tile_at, no_tile, flight_of}

-- one more passes, where one that doesn't is replaced by one that does
count_set_more : {A : Type 0} (test : A → Bool) (xs : List A) (k : ℕ) (y e : A) → k < length xs → test y ≡ true → test (slice_index_or xs k e) ≡ false
    → count_by test (slice_set xs k y) ≡ count_by test xs + 1
count_set_more test [] k y e low h f = absurd (omega (arith, low))
count_set_more test (x ∷ xs) zero y e low h f =
    let new : count_by test (y ∷ xs) ≡ 1 + count_by test xs = count_cons test y xs ∙ ap (λ (b : Bool). cond {A = ℕ} b 1 0 + count_by test xs) h in
    let old : count_by test (x ∷ xs) ≡ 0 + count_by test xs = count_cons test x xs ∙ ap (λ (b : Bool). cond {A = ℕ} b 1 0 + count_by test xs) f in
    omega (arith, new, old)
count_set_more test (x ∷ xs) (suc k) y e low h f =
    let rest = count_set_more test xs k y e (omega (arith, low)) h f in
    let new = count_cons test x (slice_set xs k y) in
    let old = count_cons test x xs in
    omega (arith, new, old, rest)

-- fewer pass than there are, where one doesn't
count_short : {A : Type 0} (test : A → Bool) (xs : List A) (k : ℕ) (e : A) → k < length xs → test (slice_index_or xs k e) ≡ false → count_by test xs < length xs
count_short test [] k e low f = absurd (omega (arith, low))
count_short test (x ∷ xs) zero e low f =
    let old : count_by test (x ∷ xs) ≡ 0 + count_by test xs = count_cons test x xs ∙ ap (λ (b : Bool). cond {A = ℕ} b 1 0 + count_by test xs) f in
    let most = count_by-le-length test xs in
    omega (arith, old, most)
count_short test (x ∷ xs) (suc k) e low f =
    let rest = count_short test xs k e (omega (arith, low)) f in
    let old = count_cons test x xs in
    let one = at_most_one (test x) in
    omega (arith, old, rest, one)
  where
    at_most_one : (b : Bool) → cond {A = ℕ} b 1 0 ≤ 1
    at_most_one true = omega arith
    at_most_one false = omega arith

-- A step that changes no channel: a processor's marks, and words behind those of the memory.
module _ (d : Design) (net : IsNet (net_of d)) (tags : ℕ) (opening : List ℕ) (s : State) (g : Ghost) (order : List LinearizationPoint)
    (st : Stands d tags opening s g order)
    (t : ℕ) (t_in : t < tiles_of d.shape) (new_tile : TileState) (words : List ℕ) where
  abbrev pub still_state : State
  still_state = record { tiles = slice_set s.tiles t new_tile; around = record { rings = s.around.rings; words = words } }

  tile_in : t < length s.tiles
  tile_in = subst (λ (k : ℕ). t < k) (sym st.tiles) t_in

  pub tile_new : tile_at still_state t ≡ new_tile
  tile_new = get_or-set_same s.tiles t new_tile no_tile tile_in

  pub tile_other : (u : ℕ) → u ≢ t → tile_at still_state u ≡ tile_at s u
  tile_other u other = get_or-set_other s.tiles t u new_tile no_tile other

  pub part_kept : {A : Type 0} (f : TileState → A) → f new_tile ≡ f (tile_at s t) → (u : ℕ) → f (tile_at still_state u) ≡ f (tile_at s u)
  part_kept f same u = ⊎_elim
      (λ (h : u ≡ t). ap (λ (v : ℕ). f (tile_at still_state v)) h ∙ (ap f tile_new ∙ (same ∙ ap (λ (v : ℕ). f (tile_at s v)) (sym h))))
      (λ (other : u ≢ t). ap f (tile_other u other))
      (cases_eq u t)

  pub record IsStill : Type 0 where
    pub router : new_tile.router ≡ (tile_at s t).router
    pub bank : new_tile.bank ≡ (tile_at s t).bank
    pub operations : new_tile.processor.operations ≡ (tile_at s t).processor.operations
    pub to_put : new_tile.processor.to_put ≡ (tile_at s t).processor.to_put
    pub so_far : new_tile.processor.so_far ≡ (tile_at s t).processor.so_far
    pub size : length words ≡ length s.around.words
    pub memory : take d.words words ≡ take d.words s.around.words
    pub reported : Reported d still_state

  module _ (i : IsStill) where
    still_mirrors : Mirrors d still_state g.net.lines
    still_mirrors = record {
      count = st.mirrors.count;
      rings = st.mirrors.rings;
      ports = λ u h. let k = part_kept (λ (w : TileState). w.router) i.router u in rw k (st.mirrors.ports u h);
      latches = λ u j h l. let k = part_kept (λ (w : TileState). w.router) i.router u in rw k (st.mirrors.latches u j h l);
      owners = λ u j o h l m. let k = part_kept (λ (w : TileState). w.router) i.router u in rw k (st.mirrors.owners u j o h l m);
      unowned = λ u o h l none. let k = part_kept (λ (w : TileState). w.router) i.router u in
          st.mirrors.unowned u o h l (λ j owns. none j (ap (λ (x : RouterState). output_owned x j) k ∙ owns));
      outputs = λ u j o h owns. let k = part_kept (λ (w : TileState). w.router) i.router u in
          st.mirrors.outputs u j o h (ap (λ (x : RouterState). output_owned x j) (sym k) ∙ owns);
      sends_requests = λ u h. st.mirrors.sends_requests u h ∙ sym (part_kept (λ (w : TileState). w.processor.to_put) i.to_put u);
      sends_replies = λ u h. let k = part_kept (λ (w : TileState). w.bank) i.bank u in rw k (st.mirrors.sends_replies u h);
      takes_replies = λ u h. st.mirrors.takes_replies u h ∙ sym (part_kept (λ (w : TileState). w.processor.so_far) i.so_far u);
      takes_requests = λ u h. let k = part_kept (λ (w : TileState). w.bank) i.bank u in rw k (st.mirrors.takes_requests u h);
    }

    still_carries : Carries d still_state g
    still_carries = record {
      processors = st.carries.processors;
      takers = st.carries.takers;
      requests_sent = st.carries.requests_sent;
      requests_proper = st.carries.requests_proper;
      requests_whole = λ b h. let k = part_kept (λ (w : TileState). w.bank) i.bank b in rw k (st.carries.requests_whole b h);
      waiting_proper = λ b r waits. st.carries.waiting_proper b r
          (ap (λ (x : BankState). x.waiting) (sym (part_kept (λ (w : TileState). w.bank) i.bank b)) ∙ waits);
      asked = λ p b h l. let k = part_kept (λ (w : TileState). w.bank) i.bank b in rw k (st.carries.asked p b h l);
      replies_sent = λ b h. let k = part_kept (λ (w : TileState). w.bank) i.bank b in rw k (st.carries.replies_sent b h);
      replies_proper = λ b h. let k = part_kept (λ (w : TileState). w.bank) i.bank b in rw k (st.carries.replies_proper b h);
      replies_whole = st.carries.replies_whole;
      told = λ b p h l. let k = part_kept (λ (w : TileState). w.bank) i.bank b in rw k (st.carries.told b p h l);
      issued = λ p. st.carries.issued p ∙ sym (ap (λ (b : ProcessorRecord). b.issued) (part_kept (λ (w : TileState). w.processor.operations) i.operations p));
      answered = λ p. ap (λ (b : ProcessorRecord). map (notice_by p) b.answers) (part_kept (λ (w : TileState). w.processor.operations) i.operations p)
          ∙ st.carries.answered p;
    }

    tile_there : slice_get s.tiles t ≡ Some (tile_at s t)
    tile_there = slice_get-get_or s.tiles t no_tile tile_in

    still_flight : flight_of d.words still_state g ≡ flight_of d.words s g
    still_flight = same_flight _ _ _ _ _ _ g.asked g.told (part_stays record_in no_processor s.tiles t (tile_at s t) new_tile tile_there i.operations)
        (part_stays entries_in [] s.tiles t (tile_at s t) new_tile tile_there (ap (λ (x : BankState). x.entries) i.bank)) i.memory

    -- What holds of every reached state is kept.
    pub still_stands : Stands d tags opening still_state g order
    still_stands = record {
      tiles = length-set s.tiles t new_tile ∙ st.tiles;
      size = i.size ∙ st.size;
      words = st.words;
      rings = st.rings;
      lines = st.lines;
      routes = st.routes;
      mirrors = still_mirrors;
      flight = subst (λ (f : Flight). Whole (tiles_of d.shape) tags opening f order) (sym still_flight) st.flight;
      carries = still_carries;
      phases = λ u. let k = part_kept (λ (w : TileState). w.bank) i.bank u in rw k (st.phases u);
      reported = i.reported;
    }

-- A processor reports that its script is finished.
module _ (d : Design) (accepted : IsAccepted d.shape) (net : IsNet (net_of d)) (tags : ℕ) (opening : List ℕ) (s : State) (g : Ghost)
    (order : List LinearizationPoint) (st : Stands d tags opening s g order)
    (t : ℕ) (t_in : t < tiles_of d.shape) (finished : is_finished (tile_at s t).processor.operations.following ≡ true)
    (unreported : (tile_at s t).processor.reported ≡ false) where
  abbrev pub done_tile : TileState
  done_tile = record (tile_at s t) { processor = record ((tile_at s t).processor) { reported = true } }

  abbrev found : ℕ
  found = slice_index s.around.words d.words

  abbrev pub done_words : List ℕ
  done_words = slice_set s.around.words d.words (new_word (op.Add 1) found)

  abbrev done_state : State
  done_state = still_state d net tags opening s g order st t t_in done_tile done_words

  fewer : found < tiles_of d.shape
  fewer =
      let short = count_short (λ (w : TileState). w.processor.reported) s.tiles t no_tile (subst (λ (k : ℕ). t < k) (sym st.tiles) t_in) unreported in
      let count = st.reported.counts in
      let all = st.tiles in
      omega (arith, short, count, all)

  one_more : (found + 1) % 2 ^ 64 ≡ found + 1
  one_more =
      let few = fewer in
      let most = accepted.tiles in
      mod-eq_of_lt {n = found + 1} {m = 2 ^ 64} (omega (arith, few, most))

  within : d.words < length s.around.words
  within = let k = st.size in omega (arith, k)

  counted : slice_index done_words d.words ≡ found + 1
  counted = get_or-set_same s.around.words d.words (new_word (op.Add 1) found) 0 within ∙ one_more

  done_reported : Reported d done_state
  done_reported = record {
    counts =
        let more = count_set_more (λ (w : TileState). w.processor.reported) s.tiles t done_tile no_tile (subst (λ (k : ℕ). t < k) (sym st.tiles) t_in) refl
        unreported in
        counted ∙ (ap (λ (k : ℕ). k + 1) st.reported.counts ∙ sym more);
    finished = λ u h. ⊎_elim
        (λ (e : u ≡ t). ap (λ (b : ProcessorRecord). is_finished b.following)
        (part_kept d net tags opening s g order st t t_in done_tile done_words (λ (w : TileState). w.processor.operations) refl u)
        ∙ (ap (λ (v : ℕ). is_finished (tile_at s v).processor.operations.following) e ∙ finished))
        (λ (other : u ≢ t). let k = tile_other d net tags opening s g order st t t_in done_tile done_words u other in
        ap (λ (w : TileState). is_finished w.processor.operations.following) k
        ∙ st.reported.finished u (ap (λ (w : TileState). w.processor.reported) (sym k) ∙ h))
        (cases_eq u t);
    seen = λ u h.
        let all = st.reported.seen u
        (sym (part_kept d net tags opening s g order st t t_in done_tile done_words (λ (w : TileState). w.processor.seen) refl u) ∙ h) in
        let few = fewer in
        absurd (omega (arith, all, few));
  }

  pub done_stands : Stands d tags opening done_state g order
  done_stands = still_stands d net tags opening s g order st t t_in done_tile done_words (record {
    router = refl;
    bank = refl;
    operations = refl;
    to_put = refl;
    so_far = refl;
    size = length-set s.around.words d.words _;
    memory = take-set-le d.words s.around.words d.words (new_word (op.Add 1) found) (omega arith);
    reported = done_reported;
  })

-- A processor sees that all have reported.
module _ (d : Design) (net : IsNet (net_of d)) (tags : ℕ) (opening : List ℕ) (s : State) (g : Ghost) (order : List LinearizationPoint)
    (st : Stands d tags opening s g order)
    (t : ℕ) (t_in : t < tiles_of d.shape) (all : slice_index s.around.words d.words ≡ tiles_of d.shape) where
  abbrev pub seen_tile : TileState
  seen_tile = record (tile_at s t) { processor = record ((tile_at s t).processor) { seen = true } }

  abbrev seen_state : State
  seen_state = still_state d net tags opening s g order st t t_in seen_tile s.around.words

  pub seen_stands : Stands d tags opening seen_state g order
  seen_stands = still_stands d net tags opening s g order st t t_in seen_tile s.around.words (record {
    router = refl;
    bank = refl;
    operations = refl;
    to_put = refl;
    so_far = refl;
    size = refl;
    memory = refl;
    reported = record {
      counts = st.reported.counts ∙ sym (count_set (λ (w : TileState). w.processor.reported) s.tiles t seen_tile no_tile refl);
      finished = λ u h.
          ap (λ (b : ProcessorRecord). is_finished b.following)
          (part_kept d net tags opening s g order st t t_in seen_tile s.around.words (λ (w : TileState). w.processor.operations) refl u)
          ∙ st.reported.finished u (sym
          (part_kept d net tags opening s g order st t t_in seen_tile s.around.words (λ (w : TileState). w.processor.reported) refl u) ∙ h);
      seen = λ u h. all;
    };
  })
