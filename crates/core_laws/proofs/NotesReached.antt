-- What is noted of an enabled attempt after some of the steps of a run.
use Rattle.std.proofs.Common.{◌≡◌, ℕ, ◌<◌, ◌≤◌, Bool, true, false, List, length, take, Option, Some, None, refl, sym, ◌∙◌, ap, subst, arith, slice_get}
use Rattle.std.proofs.Common.{nat_lt, if◌then◌else◌}
use Rattle.std.proofs.lemmas.Option.{slice_get_within}
use Rattle.std.proofs.lemmas.Bool.{ltb-true, ltb-false}
use Rattle.torus.specs.Shape.{tiles_of}
use Rattle.torus.specs.declared.step.Step.{Step}
use Rattle.home_bank.specs.declared.entry.Entry.{Entry}
use Rattle.one_order.specs.declared.answer.Answer.{Answer}
use Rattle.one_order.specs.Observed.{Observed}
use Rattle.one_order.specs.Events.{order_after}
use Rattle.one_order.specs.ProcessorRecord.{ProcessorRecord, no_processor}
use Rattle.one_order.specs.Flight.{Move, Serves}
use Rattle.one_order.specs.EventBook.{EventBook, noted_issue, noted_event, book_of}
use Rattle.one_order.specs.Room.{IsBookWithin, HasRoomForMove}
use Rattle.one_order.proofs.Bounds.{within, book_within, room_for}
use Rattle.one_order.proofs.EventBooks.{IsBookOf, kept, order_of_book}
use Rattle.core_laws.specs.Tile.{Design, TileState}
use Rattle.core_laws.specs.Agents.{agent_tile}
use Rattle.core_laws.specs.Core.{Load, State, design_of, step, records_of, run_of}
use Rattle.core_laws.specs.Moves.{move_of}
use Rattle.core_laws.specs.Runs.{IsAcceptedLoad, state_after}
use Rattle.core_laws.specs.Noted.{noted, flight_after}
use Rattle.core_laws.proofs.FlightSteps.{record_in, part_stays}
use Rattle.core_laws.proofs.Histories.{event_at}
use Rattle.core_laws.proofs.EveryRun.{holds_in, run_is_history}
use Rattle.core_laws.proofs.Networks.{network}
use Rattle.core_laws.proofs.StepEvents.{found}
use Rattle.core_laws.proofs.TileMoves.{IsHere, TileMoved}
use Rattle.core_laws.specs.Machine.{book_after, event_in}
use Rattle.core_laws.proofs.Books.{book_at}
use Rattle.core_laws.proofs.Moments.{moment, points}
use Rattle.core_laws.specs.Seen.{IsToldByCounts}
use Rattle.core_laws.proofs.Events as events
use Rattle.core_laws.specs.Notes.{FitsLoad, RoomToNoteIssue, RoomToNoteService, RoomToNoteAnswer, IsLevel, RisesByOne, index_served, service_noted}
use Rattle.core_laws.specs.Notes.{answer_noted, book_noted}
use Rattle.core_laws.proofs.RowCounts.{rises, stays, record_stays}
use Rattle.core_laws.proofs.RowRooms.{issue_room, service_room, answer_room}

module _ (l : Load) (ok : IsAcceptedLoad l) (steps : List Step) (n : ℕ) where
  book_is_of : IsBookOf (run_of l steps) n (book_of (tiles_of l.shape) (event_at l steps) n)
  book_is_of = (kept (tiles_of l.shape) l.tags l.opening (run_of l steps) (event_at l steps) n (run_is_history l ok steps n)).book

  is_within : IsBookWithin l.scripts (flight_after l steps n) (book_of (tiles_of l.shape) (event_at l steps) n)
  is_within = book_within (tiles_of l.shape) l.tags l.opening l.scripts (run_of l steps) n (flight_after l steps n) (points l steps n) (moment l steps ok n)
      (book_of (tiles_of l.shape) (event_at l steps) n) book_is_of
      (order_of_book (tiles_of l.shape) l.tags l.opening (run_of l steps) (event_at l steps) n (run_is_history l ok steps n))

  -- the book goes with the flight
  pub goes_with : IsBookWithin l.scripts (flight_after l steps n) (book_after l (take n steps))
  goes_with = subst (IsBookWithin l.scripts (flight_after l steps n)) (sym (book_at l steps n)) is_within

  -- and fits the load
  pub fits : FitsLoad l (book_after l (take n steps))
  fits =
      let g = book_of (tiles_of l.shape) (event_at l steps) n in
      let m = moment l steps ok n in
      let flight_within = within (tiles_of l.shape) l.tags l.opening l.scripts (run_of l steps) n (flight_after l steps n) (points l steps n) m in
      let asked = flight_within.asked in
      let rows = is_within.rows in
      subst (FitsLoad l) (sym (book_at l steps n)) (record {
        issues = book_is_of.issues.processors ∙ (ap (λ (x : Observed). length x.issued) m.shown ∙ m.whole.account.shown.processors);
        positions = book_is_of.banks ∙ (ap (λ (x : Observed). length x.entries) m.shown ∙ m.whole.account.shown.banks);
        events = is_within.events;
        rows = omega (arith, asked, rows);
        operations = ok.scripts.total;
      })

module _ (l : Load) (ok : IsAcceptedLoad l) (steps : List Step) (n : ℕ) (attempt : Step) (next : State)
    (is : step (design_of l) (state_after l steps n) attempt ≡ Some next) (before left : TileState)
    (there : slice_get (state_after l steps n).tiles (agent_tile attempt.agent) ≡ Some before)
    (later : slice_get next.tiles (agent_tile attempt.agent) ≡ Some left) where
  abbrev d : Design
  d = design_of l

  abbrev s : State
  s = state_after l steps n

  abbrev t : ℕ
  t = agent_tile attempt.agent

  abbrev move : Option Move
  move = move_of d s attempt

  abbrev b : ProcessorRecord
  b = before.processor.operations

  abbrev c : ProcessorRecord
  c = left.processor.operations

  abbrev g : EventBook
  g = book_after l (take n steps)

  moves : TileMoved (tiles_of d.shape) d.words t before s.around left (events.stepped l ok steps n attempt next is before left there later).0.1 move
  moves = events.moves l ok steps n attempt next is before left there later

  t_in : t < tiles_of l.shape
  t_in = subst (λ (k : ℕ). t < k) (holds_in l ok steps n).stands.tiles (slice_get_within s.tiles t before there)

  -- a move that is there has room and is of this tile
  facts : (k : Move) → move ≡ Some k
      → HasRoomForMove (tiles_of l.shape) (length l.opening) l.scripts (flight_after l steps n) k × IsHere (tiles_of l.shape) (length l.opening) t k
  facts k e =
      let f = found d (network d ok.shape) l.tags l.opening s (noted l steps n) (order_after (event_at l steps) n) (holds_in l ok steps n).stands
      (events.addressed l ok steps n attempt next is before left there later) attempt k e in
      (room_for (tiles_of l.shape) l.tags l.opening l.scripts (run_of l steps) n (flight_after l steps n) (points l steps n) (moment l steps ok n) k f.0, f.1)

  pub risen : RisesByOne before left
  risen = rises (tiles_of l.shape) t _ before left move moves.operations moves.entries

  pub level_left : length c.issued ≤ length b.issued → slice_get c.answers (length b.answers) ≡ None
      → slice_get left.bank.entries (length before.bank.entries) ≡ None → IsLevel before left
  level_left = stays (tiles_of l.shape) t _ before left move moves.operations moves.entries

  -- a service leaves the records
  pub records_left : (e : Entry) → slice_get left.bank.entries (length before.bank.entries) ≡ Some e → records_of next ≡ records_of s
  records_left e new =
      let p = events.stepped l ok steps n attempt next is before left there later in
      let same : record_in p.0.0 ≡ record_in before = ap record_in (events.left_is l ok steps n attempt next is before left there later)
      ∙ record_stays (tiles_of l.shape) t _ before left move moves.operations moves.entries e new in
      ap records_of (sym p.2) ∙ part_stays record_in no_processor s.tiles t before p.0.0 there same

  pub room_to_issue : length b.issued < length c.issued → RoomToNoteIssue l g t
  room_to_issue = issue_room l ok.processors (flight_after l steps n) g (fits l ok steps n) (goes_with l ok steps n) t t_in b c move (λ k e. (facts k e).0)
      moves.operations

  pub room_to_answer : (a : Answer) → slice_get c.answers (length b.answers) ≡ Some a → RoomToNoteAnswer g a.bank a.place
  room_to_answer = answer_room l ok.processors (flight_after l steps n) g (fits l ok steps n) (goes_with l ok steps n) t t_in b c move (λ k e. (facts k e).0)
      moves.operations

  pub room_to_serve : (e : Entry) → slice_get left.bank.entries (length before.bank.entries) ≡ Some e
      → RoomToNoteService l g t e.source (index_served (records_of next) e)
  room_to_serve e new =
      subst (λ (rs : List ProcessorRecord). RoomToNoteService l g t e.source (index_served rs e)) (sym (records_left e new))
      (service_room l ok.processors (flight_after l steps n) g (fits l ok steps n) (goes_with l ok steps n) t t_in _ before.bank.entries left.bank.entries move
      (λ k h. (facts k h).0) (λ r h. (facts (Serves r) h).1.0) moves.entries e new)

  module _ (h : EventBook) where
    told : IsToldByCounts s t before left h (noted_event (tiles_of l.shape) h (event_in d s attempt))
    told = events.told_by_counts l ok steps n attempt next is before left there later h

    -- by one entry more, or none
    service_told : (entry : Option Entry) → slice_get left.bank.entries (length before.bank.entries) ≡ entry → length c.issued ≤ length b.issued
        → slice_get c.answers (length b.answers) ≡ None
        → service_noted t (records_of next) entry h ≡ noted_event (tiles_of l.shape) h (event_in d s attempt)
    service_told None none issued answers = let same = level_left issued answers none in sym (told.nothing same.issued same.answers same.entries)
    service_told (Some e) new issued answers = ap (λ (rs : List ProcessorRecord). service_noted t rs (Some e) h) (records_left e new) ∙ sym (told.service e new)

    -- by one answer more, or none
    answer_told : (answer : Option Answer) → slice_get c.answers (length b.answers) ≡ answer → length c.issued ≤ length b.issued
        → answer_noted t (records_of next) answer (slice_get left.bank.entries (length before.bank.entries)) h
        ≡ noted_event (tiles_of l.shape) h (event_in d s attempt)
    answer_told None none issued = service_told (slice_get left.bank.entries (length before.bank.entries)) refl issued none
    answer_told (Some a) new issued = sym (told.answer a new)

    -- by more operations, or as many
    issue_told : (more : Bool) → nat_lt (length b.issued) (length c.issued) ≡ more
        → (if more then noted_issue t h
        else answer_noted t (records_of next) (slice_get c.answers (length b.answers)) (slice_get left.bank.entries (length before.bank.entries)) h)
        ≡ noted_event (tiles_of l.shape) h (event_in d s attempt)
    issue_told true more = sym (told.issue (ltb-true (length b.issued) (length c.issued) more))
    issue_told false more = answer_told (slice_get c.answers (length b.answers)) refl (ltb-false (length b.issued) (length c.issued) more)

    pub noted_is : book_noted t (records_of next) (length b.issued) (length b.answers) (length before.bank.entries) left h
        ≡ noted_event (tiles_of l.shape) h (event_in d s attempt)
    noted_is = issue_told (nat_lt (length b.issued) (length c.issued)) refl
