-- The moves of a list of steps without the reports among them.
use Rattle.std.proofs.Common.{◌≡◌, ℕ, zero, suc, ◌+◌, Bool, true, false, List, [], ◌∷◌, map, length, Option, Some, None, refl, sym, ◌∙◌, ap, subst}
use Rattle.std.proofs.Common.{arith, slice_get, slice_set, slice_index_or}
use Rattle.std.specs.Prelude.{option_and_then, option_map, if◌then◌else◌}
use Rattle.std.proofs.lemmas.List.{map-set}
use Rattle.std.proofs.lemmas.List.Sums.{sum_by-set}
use Rattle.std.proofs.lemmas.Option.{slice_get_within, get_or_from_slice_get}
use Rattle.torus.specs.Shape.{tiles_of}
use Rattle.torus.specs.declared.step.Step.{Step}
use Rattle.one_order.specs.Events.{Event, Served, Answered}
use Rattle.core_laws.specs.Rounds as rounds
use Rattle.one_order.specs.ProcessorRecord.{ProcessorRecord, no_processor, index_of, operation_under, answer_of}
use Rattle.flit_buffer.specs.Surroundings.{Surroundings}
use Rattle.one_order.specs.Flight.{Move, Sends, Serves, Takes, flight_event}
use Rattle.one_order.specs.EventBook.{EventBook, noted_event}
use Rattle.core_laws.specs.Tile.{Design, TileState, tile_step}
use Rattle.core_laws.specs.Agents.{agent_kind, agent_tile}
use Rattle.core_laws.specs.Core.{State, step, or_same, next, after_from, records_of}
use Rattle.core_laws.specs.Moves.{tile_move, move_of}
use Rattle.core_laws.specs.Runs.{without_packets}
use Rattle.core_laws.proofs.AgentSteps.{option_map_some}
use Rattle.core_laws.proofs.FlightSteps.{part_stays}
use Rattle.core_laws.proofs.Stands.{no_tile}
use Rattle.core_laws.specs.Machine.{event_in, book_from}
use Rattle.core_laws.specs.Enabled.{ahead_if_moved, enabled_of}
use Rattle.core_laws.proofs.StepLists.{idle_event, enabled_rest}
use Rattle.core_laws.specs.Reopened.{tile_open, around_open, state_open, marks, reports_in, is_report, without_reports}
use Rattle.core_laws.proofs.Tables.{ServesWords}
use Rattle.core_laws.proofs.UnreportedTiles.{same_step, report_step, report_move}

get_map : {A B : Type 0} (f : A → B) (xs : List A) (i : ℕ) (x : A) → slice_get xs i ≡ Some x
    → slice_get (map f xs) i ≡ Some (f x)
get_map f [] i x h = absurd (cc)
get_map f (y ∷ xs) zero x h = ap (option_map f) h
get_map f (y ∷ xs) (suc i) x h = get_map f xs i x h

map_map : (tiles : List TileState)
    → map (λ (t : TileState). t.processor.operations) (map tile_open tiles)
    ≡ map (λ (t : TileState). t.processor.operations) tiles
map_map [] = refl
map_map (t ∷ tiles) = ap (λ (bs : List ProcessorRecord). t.processor.operations ∷ bs) (map_map tiles)

pub records_open : (d : Design) (s : State) → records_of (state_open d s) ≡ records_of s
records_open d s = map_map s.tiles

event_open : (d : Design) (s : State) (m : Option Move)
    → flight_event (without_packets d.words (state_open d s)) m ≡ flight_event (without_packets d.words s) m
event_open d s None = refl
event_open d s (Some (Sends t tag o)) = refl
event_open d s (Some (Serves r)) =
    ap (λ (bs : List ProcessorRecord). Served r.source (index_of (slice_index_or bs r.source no_processor) r.tag.0)
    r.tag (operation_under (slice_index_or bs r.source no_processor) r.tag.0)) (records_open d s)
event_open d s (Some (Takes r)) =
    ap (λ (bs : List ProcessorRecord). Answered r.destination
    (answer_of (slice_index_or bs r.destination no_processor) r)) (records_open d s)

-- each bank serves words of the memory alone
abbrev pub AllServeWords : Design → State → Type 0
AllServeWords d s =
    (t : ℕ) (tile : TileState) → slice_get s.tiles t ≡ Some tile → ServesWords (tiles_of d.shape) d.words t tile.bank

module _ (d : Design) (s : State) (x : Step) where
  abbrev left : List TileState → TileState × Surroundings → State
  left tiles q = record { tiles = slice_set tiles (agent_tile x.agent) q.0; around = q.1 }

  abbrev made : List TileState → Surroundings → State
  made ts a = record { tiles = ts; around = a }

  abbrev stepped : List TileState → Surroundings → Option TileState → Option State
  stepped tiles around o =
      option_and_then
      (λ (v : TileState). option_map (left tiles)
      (tile_step d (agent_tile x.agent) v around (agent_kind x.agent) x.choice)) o

  abbrev move_at : Surroundings → Option TileState → Option Move
  move_at around o =
      option_and_then (λ (v : TileState). tile_move d (agent_tile x.agent) v around (agent_kind x.agent) x.choice) o

  -- the tile that steps, and what it leaves
  pub record Stepped (t : State) : Type 0 where
    pub tile : TileState
    pub q : TileState × Surroundings
    pub there : slice_get s.tiles (agent_tile x.agent) ≡ Some tile
    pub is : tile_step d (agent_tile x.agent) tile s.around (agent_kind x.agent) x.choice ≡ Some q
    pub leaves : left s.tiles q ≡ t

  by_tile : (t : State) (o : Option TileState) → slice_get s.tiles (agent_tile x.agent) ≡ o
      → stepped s.tiles s.around o ≡ Some t → Stepped t
  by_tile t None there h = absurd (cc)
  by_tile t (Some tile) there h =
      let y = option_map_some (left s.tiles)
      (tile_step d (agent_tile x.agent) tile s.around (agent_kind x.agent) x.choice) t h in
      record { tile = tile; q = y.0; there = there; is = y.1; leaves = y.2 }

  stepped_by : (t : State) → step d s x ≡ Some t → Stepped t
  stepped_by t h = by_tile t (slice_get s.tiles (agent_tile x.agent)) refl h

  marks_left : (t : State) (y : Stepped t) → reports_in t + marks y.tile ≡ reports_in s + marks y.q.0
  marks_left t y =
      let low = slice_get_within s.tiles (agent_tile x.agent) y.tile y.there in
      let sums = sum_by-set marks s.tiles (agent_tile x.agent) y.q.0 y.tile low in
      let here : marks (slice_index_or s.tiles (agent_tile x.agent) y.tile) ≡ marks y.tile =
      ap marks (get_or_from_slice_get s.tiles (agent_tile x.agent) y.tile y.tile y.there) in
      let is : reports_in (left s.tiles y.q) ≡ reports_in t = ap reports_in y.leaves in
      omega (arith, sums, here, is)

  pub record Opens (t : State) : Type 0 where
    pub step : step d (state_open d s) x ≡ Some (state_open d t)
    pub event : event_in d (state_open d s) x ≡ event_in d s x
    pub marks : reports_in t ≡ reports_in s

  pub plain_step : (t : State) → step d s x ≡ Some t → is_report x.choice ≡ false → AllServeWords d s → Opens t
  plain_step t h plain words =
      let y = stepped_by t h in
      let z = same_step d (agent_tile x.agent) y.tile s.around (agent_kind x.agent) x.choice y.q y.is plain
      (words (agent_tile x.agent) y.tile y.there) in
      let there_open : slice_get (map tile_open s.tiles) (agent_tile x.agent) ≡ Some (tile_open y.tile) =
      get_map tile_open s.tiles (agent_tile x.agent) y.tile y.there in
      let sums = marks_left t y in
      let same = z.marks in
      record {
        step =
            ap (stepped (map tile_open s.tiles) (around_open d.words s.around)) there_open
            ∙ (ap (option_map (left (map tile_open s.tiles))) z.step
            ∙ (ap (λ (ts : List TileState). Some (made ts (around_open d.words y.q.1)))
            (sym (map-set tile_open s.tiles (agent_tile x.agent) y.q.0))
            ∙ ap (λ (u : State). Some (state_open d u)) y.leaves));
        event =
            ap (flight_event (without_packets d.words (state_open d s)))
            (ap (move_at (around_open d.words s.around)) there_open
            ∙ (z.move ∙ sym (ap (move_at s.around) y.there)))
            ∙ event_open d s (move_of d s x);
        marks = omega (arith, sums, same);
      }

  pub record Reports (t : State) : Type 0 where
    pub state : state_open d t ≡ state_open d s
    pub book : (g : EventBook) → noted_event (tiles_of d.shape) g (event_in d s x) ≡ g
    pub marks : reports_in t ≡ reports_in s + 1

  pub reporting_step : (t : State) → step d s x ≡ Some t → is_report x.choice ≡ true → Reports t
  reporting_step t h is =
      let y = stepped_by t h in
      let z = report_step d (agent_tile x.agent) y.tile s.around (agent_kind x.agent) x.choice y.q y.is is in
      let none : move_of d s x ≡ None =
      ap (move_at s.around) y.there
      ∙ report_move d (agent_tile x.agent) y.tile s.around (agent_kind x.agent) x.choice is in
      let sums = marks_left t y in
      let more = z.marks in
      record {
        state =
            ap (state_open d) (sym y.leaves)
            ∙ (ap (λ (ts : List TileState). made ts (around_open d.words y.q.1))
            (part_stays tile_open (tile_open no_tile) s.tiles (agent_tile x.agent) y.tile y.q.0 y.there z.tile_is)
            ∙ ap (made (map tile_open s.tiles)) z.around_is);
        book = λ g. ap (λ (m : Option Move). noted_event (tiles_of d.shape) g (flight_event (without_packets d.words s) m))
            none;
        marks = omega (arith, sums, more);
      }

-- a list of moves, and the same without the reports, from the state without marks
module _ (d : Design) where
  pub record Reopens (s : State) (g : EventBook) (ms : List Step) (t : State) (h : EventBook) : Type 0 where
    pub state : after_from d (state_open d s) (without_reports ms) ≡ state_open d t
    pub book : book_from d (state_open d s) g (without_reports ms) ≡ h
    pub moves : enabled_of (step d) (state_open d s) (without_reports ms) ≡ without_reports ms
    pub count : length (without_reports ms) + reports_in t ≡ length ms + reports_in s

  -- what Reopens says, with the list rs of the moves without reports and the number n of all moves
  record Looked (s : State) (g : EventBook) (rs : List Step) (n : ℕ) (t : State) (h : EventBook) : Type 0 where
    state : after_from d (state_open d s) rs ≡ state_open d t
    book : book_from d (state_open d s) g rs ≡ h
    moves : enabled_of (step d) (state_open d s) rs ≡ rs
    count : length rs + reports_in t ≡ n + reports_in s

  look : (s u : State) (g : EventBook) (x : Step) (ms : List Step) (t : State) (h : EventBook) (b : Bool)
      → is_report x.choice ≡ b → step d s x ≡ Some u → AllServeWords d s
      → Reopens u (noted_event (tiles_of d.shape) g (event_in d s x)) ms t h
      → Looked s g (if b then without_reports ms else x ∷ without_reports ms) (length (x ∷ ms)) t h
  look s u g x ms t h true kind is words f =
      let r = reporting_step d s x u is kind in
      let count = f.count in
      let more = r.marks in
      record {
        state = ap (λ (v : State). after_from d v (without_reports ms)) (sym r.state) ∙ f.state;
        book =
            ap (λ (v : State). book_from d v g (without_reports ms)) (sym r.state)
            ∙ (ap (λ (e : EventBook). book_from d (state_open d u) e (without_reports ms)) (sym (r.book g)) ∙ f.book);
        moves = ap (λ (v : State). enabled_of (step d) v (without_reports ms)) (sym r.state) ∙ f.moves;
        count = omega (arith, count, more);
      }
  look s u g x ms t h false kind is words f =
      let r = plain_step d s x u is kind words in
      let count = f.count in
      let same = r.marks in
      record {
        state = ap (λ (o : Option State). after_from d (or_same (state_open d s) o) (without_reports ms)) r.step
            ∙ f.state;
        book =
            ap (λ (o : Option State). book_from d (or_same (state_open d s) o)
            (noted_event (tiles_of d.shape) g (event_in d (state_open d s) x)) (without_reports ms)) r.step
            ∙ (ap (λ (e : Event). book_from d (state_open d u) (noted_event (tiles_of d.shape) g e)
            (without_reports ms)) r.event ∙ f.book);
        moves =
            ap (λ (o : Option State). ahead_if_moved x o
            (enabled_of (step d) (rounds.or_same (state_open d s) o) (without_reports ms))) r.step
            ∙ ap (λ (xs : List Step). x ∷ xs) f.moves;
        count = omega (arith, count, same);
      }

  by_step : (s : State) (g : EventBook) (x : Step) (ms : List Step) (t : State) (h : EventBook) (o : Option State)
      → step d s x ≡ o → AllServeWords d s
      → Reopens (or_same s o) (noted_event (tiles_of d.shape) g (event_in d s x)) ms t h
      → Reopens s g (ahead_if_moved x o ms) t h
  by_step s g x ms t h None is words f = subst (λ (b : EventBook). Reopens s b ms t h) (idle_event d s x g is) f
  by_step s g x ms t h (Some u) is words f =
      let r = look s u g x ms t h (is_report x.choice) refl is words f in
      record { state = r.state; book = r.book; moves = r.moves; count = r.count }

  -- Where something that steps keep says that banks serve words of the memory alone, the moves that are no reports lead
  -- to the same without the marks.
  pub reopens : (Reached : State → Type 0) → ((s : State) → Reached s → AllServeWords d s)
      → ((s : State) (x : Step) → Reached s → Reached (next d s x))
      → (s : State) (g : EventBook) (steps : List Step) → Reached s
      → Reopens s g (enabled_of (step d) s steps) (after_from d s steps) (book_from d s g steps)
  reopens Reached words on s g [] at = record { state = refl; book = refl; moves = refl; count = refl }
  reopens Reached words on s g (x ∷ steps) at =
      subst (λ (xs : List Step). Reopens s g (ahead_if_moved x (step d s x) xs) (after_from d s (x ∷ steps))
      (book_from d s g (x ∷ steps))) (sym (enabled_rest d s x steps))
      (by_step s g x (enabled_of (step d) (next d s x) steps) (after_from d s (x ∷ steps)) (book_from d s g (x ∷ steps))
      (step d s x) refl (words s at)
      (reopens Reached words on (next d s x) (noted_event (tiles_of d.shape) g (event_in d s x)) steps (on s x at)))
