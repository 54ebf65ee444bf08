-- What a machine shows whose parts are those of one that is handed a line.
use Rattle.std.proofs.Common.{◌≡◌, ◌≢◌, ⊎_elim, ℕ, zero, suc, ◌+◌, ◌-◌, ◌*◌, ◌<◌, Bool, true, false, List, [], ◌∷◌, ◌++◌, map, length, Option, Some, None}
use Rattle.std.proofs.Common.{refl, sym, ◌∙◌, ap}
use Rattle.std.proofs.Common.{subst, arith, slice_get, slice_set, length-append}
use Rattle.std.specs.Prelude.{option_map, sum, sum_by, if◌then◌else◌}
use Rattle.std.specs.List.{flat_map}
use Rattle.std.proofs.lemmas.Bool.{cases_eq}
use Rattle.std.proofs.lemmas.List.Sums.{sum-map}
use Rattle.std.proofs.lemmas.Option.{slice_get-map}
use Rattle.one_order.proofs.Lists.{within_length}
use Rattle.torus.specs.declared.step.Step.{Step}
use Rattle.script_lines.specs.declared.line.Line.{Line}
use Rattle.script_lines.specs.Lines.{operations_of}
use Rattle.one_order.specs.ProcessorTable.{processor_with, processor_open}
use Rattle.tile.specs.Tile.{Design, TileState}
use Rattle.tile.specs.Agents.{TilePlace, state_of, tile_placed}
use Rattle.tile.specs.Placed.{PlacedTile}
use Rattle.core_laws.specs.Core.{State}
use Rattle.core_laws.specs.Row.{places_of}
use Rattle.core_laws.specs.Attempts.{tile_in}
use Rattle.one_order.specs.EventBook.{EventBook}
use Rattle.core_laws.specs.Machine.{Core, built_to}
use Rattle.core_laws.specs.Seen.{IsShown}
use Rattle.core_laws.specs.Sleep.{OthersSleep}
use Rattle.machine_parts.specs.Awake.{Awake, is_awake, roused}
use Rattle.machine_parts.proofs.KeptSleepers.{one_roused, everyone}
use Rattle.core_laws.specs.Appended.{changed_at, tile_with, state_with, appended}
use Rattle.core_laws.proofs.Places.{get_map, get_other, map_changed}
use Rattle.core_laws.proofs.GrowthReports.{others_step}
use Rattle.core_laws.specs.Reopened.{tile_open, around_open, state_open, marks, reports_in, reopened}
use Rattle.core_laws.specs.Handed.{reported_in, has_reported, handed}
use Rattle.machine_parts.specs.Grown.{tile_given, tile_wider, tile_reopened, tiles_given, marks_in, AreAsReported}
use Rattle.machine_parts.proofs.Items.{kept, kept_at, changed_long}

-- a tile in its place with the line given to its processor, and one of which the reports are taken back
abbrev place_given : Line → TilePlace → TilePlace
place_given line q = record {
  design = q.design;
  tile = q.tile;
  processor = record { state = processor_with line q.processor.state; ports = q.processor.ports };
  router = q.router;
  bank = q.bank;
}

abbrev place_open : TilePlace → TilePlace
place_open q = record {
  design = q.design;
  tile = q.tile;
  processor = record { state = processor_open q.processor.state; ports = q.processor.ports };
  router = q.router;
  bank = q.bank;
}

abbrev places : List PlacedTile → List TilePlace
places tiles = map (λ v. v.place) tiles

set_behind : (xs ys : List ℕ) (k j w : ℕ) → j ≡ length xs + k → slice_set (xs ++ ys) j w ≡ xs ++ slice_set ys k w
set_behind [] ys k j w e = let same : j ≡ k = omega (arith, e) in ap (λ i. slice_set ys i w) same
set_behind (x ∷ xs) ys k zero w e = absurd (omega (arith, e))
set_behind (x ∷ xs) ys k (suc j) w e = ap (λ zs. x ∷ zs) (set_behind xs ys k j w (omega (arith, e)))

module _ (d : Design) (s : State) (ps : List TilePlace) (row : List ℕ) (shown : IsShown d s ps row) where
  given_at : (p : ℕ) (line : Line) (o : Option TileState) (q : Option TilePlace) → q ≡ option_map (λ tile. tile_placed d p tile s.around) o
      → option_map (place_given line) q ≡ option_map (λ tile. tile_placed d p tile s.around) (option_map (tile_with line) o)
  given_at p line None q e = ap (option_map (place_given line)) e
  given_at p line (Some tile) q e = ap (option_map (place_given line)) e

  tiles_shown : (p : ℕ) (line : Line) (t : ℕ) → slice_get (changed_at (place_given line) ps p) t ≡ tile_in d (state_with s p line) t
  tiles_shown p line t = ⊎_elim
      (λ (same : t ≡ p).
      subst (λ (k : ℕ). slice_get (changed_at (place_given line) ps p) k ≡ tile_in d (state_with s p line) k) (sym same)
      (get_map (place_given line) ps p
      ∙ (given_at p line (slice_get s.tiles p) (slice_get ps p) (shown.tiles p)
      ∙ sym (ap (option_map (λ (tile : TileState). tile_placed d p tile s.around)) (get_map (tile_with line) s.tiles p)))))
      (λ (other : t ≢ p).
      get_other (place_given line) ps p t other
      ∙ (shown.tiles t
      ∙ sym (ap (option_map (λ (tile : TileState). tile_placed d t tile s.around)) (get_other (tile_with line) s.tiles p t other))))
      (cases_eq t p)

  -- with a line
  shown_given : (p : ℕ) (line : Line) → IsShown d (state_with s p line) (changed_at (place_given line) ps p) row
  shown_given p line = record { tiles = tiles_shown p line; row_is = shown.row_is }

  open_at : (t : ℕ) (o : Option TileState) (q : Option TilePlace) → q ≡ option_map (λ tile. tile_placed d t tile s.around) o
      → option_map place_open q ≡ option_map (λ tile. tile_placed d t tile (around_open d.words s.around)) (option_map tile_open o)
  open_at t None q e = ap (option_map place_open) e
  open_at t (Some tile) q e = ap (option_map place_open) e

  -- without its reports
  shown_open : length s.around.words ≡ d.words + 1 → IsShown d (state_open d s) (map place_open ps) (slice_set row (length row - 1) 0)
  shown_open long =
      let front : List ℕ = flat_map (places_of d.depth) s.around.rings in
      record {
        tiles = λ t.
            slice_get-map place_open ps t
            ∙ (open_at t (slice_get s.tiles t) (slice_get ps t) (shown.tiles t)
            ∙ sym (ap (option_map (λ (tile : TileState). tile_placed d t tile (around_open d.words s.around))) (slice_get-map tile_open s.tiles t)));
        row_is =
            ap (λ (ws : List ℕ). slice_set ws (length ws - 1) 0) shown.row_is
            ∙ set_behind front s.around.words d.words (length (front ++ s.around.words) - 1) 0
            (let both = length-append front s.around.words in omega (arith, both, long));
      }

module _ (line : Line) (p home : ℕ) (tiles : List PlacedTile) where
  abbrev given : List PlacedTile
  given = tiles_given line p home tiles

  abbrev wider : List PlacedTile
  wider = changed_at (tile_wider (operations_of line)) tiles home

  places_given : places given ≡ changed_at (place_given line) (places tiles) p
  places_given =
      map_changed (tile_given line) (λ (v : PlacedTile). v.place) (place_given line) (λ v. refl) wider p
      ∙ ap (λ (qs : List TilePlace). changed_at (place_given line) qs p) (kept (tile_wider (operations_of line)) (λ (v : PlacedTile). v.place)
      (λ v. refl) tiles home)

  open_places : (vs : List PlacedTile) → places (map tile_reopened vs) ≡ map place_open (places vs)
  open_places [] = refl
  open_places (v ∷ vs) = ap (λ (qs : List TilePlace). place_open v.place ∷ qs) (open_places vs)

  places_opened : places (map tile_reopened given) ≡ changed_at (place_given line) (map place_open (places tiles)) p
  places_opened =
      open_places given
      ∙ (ap (map place_open) places_given ∙ map_changed (place_given line) place_open (place_given line) (λ q. refl) (places tiles) p)

  -- the marks are as they were
  abbrev marks_at : PlacedTile → ℕ
  marks_at v = marks (state_of v.place)

  marks_of_states : (vs : List PlacedTile) → map marks (map state_of (places vs)) ≡ map marks_at vs
  marks_of_states [] = refl
  marks_of_states (v ∷ vs) = ap (λ (ns : List ℕ). marks_at v ∷ ns) (marks_of_states vs)

  marks_kept : (s : State) → s.tiles ≡ map state_of (places tiles) → marks_in given ≡ reports_in s
  marks_kept s are =
      sym (sum-map marks_at given)
      ∙ (ap sum (kept (tile_given line) marks_at (λ v. refl) wider p ∙ kept (tile_wider (operations_of line)) marks_at (λ v. refl) tiles home)
      ∙ (ap sum (sym (marks_of_states tiles))
      ∙ (sum-map marks (map state_of (places tiles)) ∙ ap (λ (ts : List TileState). sum_by marks ts) (sym are))))

  -- whether the processor has reported is told by its tile with the line
  abbrev marked : PlacedTile → Bool
  marked v = v.place.processor.state.reported

  pub reported_there : (s : State) → s.tiles ≡ map state_of (places tiles) → p < length tiles
      → (v : PlacedTile) × (slice_get given p ≡ Some v) × (marked v ≡ has_reported s p)
  reported_there s are low =
      let long = changed_long (tile_given line) wider p ∙ changed_long (tile_wider (operations_of line)) tiles home in
      let v = within_length given p (omega (arith, low, long)) in
      let w = kept_at (tile_given line) marked (λ x. refl) wider p p v.0 v.1 in
      let u = kept_at (tile_wider (operations_of line)) marked (λ x. refl) tiles home p w.0 w.1 in
      let there : slice_get s.tiles p ≡ Some (state_of u.0.place) =
      ap (λ (ts : List TileState). slice_get ts p) are
      ∙ (slice_get-map state_of (places tiles) p
      ∙ ap (option_map state_of) (slice_get-map (λ (x : PlacedTile). x.place) tiles p ∙ ap (option_map (λ (x : PlacedTile). x.place)) u.1)) in
      (v.0, v.1, w.2 ∙ (u.2 ∙ sym (ap reported_in there)))

-- a machine whose parts are those of one that is handed a line
core_by : (c : Core) (p : ℕ) (line : Line) (b : Bool) (allowed : List ℕ) (s : State) (g : EventBook) (n : ℕ)
    → allowed ≡ changed_at (λ k. k + operations_of line) c.allowed p → s ≡ (appended (if b then reopened c else c) p line).state → g ≡ c.book
    → n ≡ (appended (if b then reopened c else c) p line).moves_left
    → ◌≡◌ {A = Core} (record {
      shape = c.shape;
      depth = c.depth;
      tags = c.tags;
      opening = c.opening;
      allowed = allowed;
      state = s;
      book = g;
      moves_left = n;
    }) (appended (if b then reopened c else c) p line)
core_by c p line true allowed s g n is_allowed is_state is_book is_left = λ i. record {
  shape = c.shape;
  depth = c.depth;
  tags = c.tags;
  opening = c.opening;
  allowed = is_allowed i;
  state = is_state i;
  book = is_book i;
  moves_left = is_left i;
}
core_by c p line false allowed s g n is_allowed is_state is_book is_left = λ i. record {
  shape = c.shape;
  depth = c.depth;
  tags = c.tags;
  opening = c.opening;
  allowed = is_allowed i;
  state = is_state i;
  book = is_book i;
  moves_left = is_left i;
}

pub core_is : (c : Core) (p : ℕ) (line : Line) (allowed : List ℕ) (s : State) (g : EventBook) (n : ℕ)
    → allowed ≡ changed_at (λ k. k + operations_of line) c.allowed p → s ≡ (handed c p line).state → g ≡ c.book → n ≡ (handed c p line).moves_left
    → ◌≡◌ {A = Core} (record {
      shape = c.shape;
      depth = c.depth;
      tags = c.tags;
      opening = c.opening;
      allowed = allowed;
      state = s;
      book = g;
      moves_left = n;
    }) (handed c p line)
core_is c p line = core_by c p line (has_reported c.state p)

module _ (c : Core) (p : ℕ) (line : Line) (home : ℕ) (tiles new_tiles : List PlacedTile) (row new_row : List ℕ) (awake new_awake : Awake) (taken : ℕ) where
  abbrev AreNow : Bool → Type 0
  AreNow b = AreAsReported (tiles_given line p home tiles) new_tiles row new_row awake new_awake taken b

  abbrev next : Bool → Core
  next b = appended (if b then reopened c else c) p line

  shown_by : (b : Bool) → AreNow b → IsShown (built_to c) c.state (places tiles) row → length c.state.around.words ≡ length c.opening + 1
      → IsShown (built_to c) (next b).state (places new_tiles) new_row
  shown_by true now shown long =
      let d : Design = built_to c in
      let s : State = state_with (state_open d c.state) p line in
      let h = shown_given d (state_open d c.state) (map place_open (places tiles)) (slice_set row (length row - 1) 0)
      (shown_open d c.state (places tiles) row shown long) p line in
      let e : places new_tiles ≡ changed_at (place_given line) (map place_open (places tiles)) p = ap places now.tiles_are ∙ places_opened line p home tiles in
      subst (λ (ws : List ℕ). IsShown d s (places new_tiles) ws) (sym now.row_is)
      (subst (λ (qs : List TilePlace). IsShown d s qs (slice_set row (length row - 1) 0)) (sym e) h)
  shown_by false now shown long =
      let d : Design = built_to c in
      let s : State = state_with c.state p line in
      let h = shown_given d c.state (places tiles) row shown p line in
      let e : places new_tiles ≡ changed_at (place_given line) (places tiles) p = ap places now.tiles_are ∙ places_given line p home tiles in
      subst (λ (ws : List ℕ). IsShown d s (places new_tiles) ws) (sym now.row_is) (subst (λ (qs : List TilePlace). IsShown d s qs row) (sym e) h)

  asleep_by : (b : Bool) → AreNow b → OthersSleep (built_to c) c.state (is_awake awake)
      → OthersSleep (built_to c) (next b).state (is_awake (roused new_awake (3 * p)))
  asleep_by true now sleep agent out =
      let k = one_roused new_awake (3 * p) agent out in
      let clash : ◌≡◌ {A = Bool} true false = sym (everyone awake agent) ∙ (ap (λ (w : Awake). is_awake w agent) (sym now.awake_is) ∙ k.1) in
      absurd (cc)
  asleep_by false now sleep agent out = λ choice.
      let k = one_roused new_awake (3 * p) agent out in
      let attempt : Step = record { agent = agent; choice = choice } in
      let asleep = sleep agent (ap (λ (w : Awake). is_awake w agent) (sym now.awake_is) ∙ k.1) choice in
      others_step (built_to c) c.state attempt line p k.0 ∙ ap (option_map (λ (t : State). state_with t p line)) asleep

  built_by : (b : Bool) → AreNow b → new_awake.design ≡ awake.design
  built_by true now = ap (λ (w : Awake). w.design) now.awake_is
  built_by false now = ap (λ (w : Awake). w.design) now.awake_is

  left_by : (b : Bool) → AreNow b → c.state.tiles ≡ map state_of (places tiles)
      → (next b).moves_left ≡ c.moves_left + taken + 241 * operations_of line
  left_by true now are =
      let m = now.marks_are in
      let k = marks_kept line p home tiles c.state are in
      omega (arith, m, k)
  left_by false now are = let m = now.marks_are in omega (arith, m)

  -- what the parts show, as the machine has it that is handed the line
  module _ (now : AreNow (has_reported c.state p)) where
    pub shown_then : IsShown (built_to c) c.state (places tiles) row → length c.state.around.words ≡ length c.opening + 1
        → IsShown (built_to c) (handed c p line).state (places new_tiles) new_row
    shown_then = shown_by (has_reported c.state p) now

    pub asleep_then : OthersSleep (built_to c) c.state (is_awake awake)
        → OthersSleep (built_to c) (handed c p line).state (is_awake (roused new_awake (3 * p)))
    asleep_then = asleep_by (has_reported c.state p) now

    pub design_then : new_awake.design ≡ awake.design
    design_then = built_by (has_reported c.state p) now

    pub left_then : c.state.tiles ≡ map state_of (places tiles) → (handed c p line).moves_left ≡ c.moves_left + taken + 241 * operations_of line
    left_then = left_by (has_reported c.state p) now
