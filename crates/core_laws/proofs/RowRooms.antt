-- A book that goes with its flight has room for what a move is.
use Rattle.std.proofs.Common.{◌≡◌, ℕ, ◌<◌, List, length, Option, Some, None, refl, sym, ap, subst, arith, slice_get}
use Rattle.torus.specs.Shape.{tiles_of}
use Rattle.script_lines.specs.Lines.{operation_count, total_count}
use Rattle.packet.specs.declared.kinds.Request.{Request}
use Rattle.home_bank.specs.declared.entry.Entry.{Entry}
use Rattle.one_order.specs.declared.answer.Answer.{Answer}
use Rattle.one_order.specs.Observed.{list_at}
use Rattle.one_order.proofs.Growth.{total_within}
use Rattle.one_order.proofs.Lists.{within_length}
use Rattle.one_order.specs.ProcessorRecord.{ProcessorRecord, index_of, answer_of}
use Rattle.one_order.specs.Load.{Load}
use Rattle.one_order.specs.Flight.{Flight, Move, Sends, Serves, Takes, processor_at}
use Rattle.one_order.specs.EventBook.{EventBook}
use Rattle.one_order.specs.Room.{IsBookWithin, HasRoomForMove, RoomToSend, home_room}
use Rattle.core_laws.proofs.TileMoves.{RecordMoved, EntriesMoved}
use Rattle.core_laws.proofs.Events.{no_more, last_pushed}
use Rattle.core_laws.specs.Notes.{FitsLoad, RoomToNoteIssue, RoomToNoteService, RoomToNoteAnswer}

module _ (l : Load) (scripts : length l.scripts ≡ tiles_of l.shape) (f : Flight) (g : EventBook) (fits : FitsLoad l g) (within : IsBookWithin l.scripts f g)
    (t : ℕ) (t_in : t < tiles_of l.shape) where
  abbrev tiles : ℕ
  tiles = tiles_of l.shape

  abbrev words : ℕ
  words = length l.opening

  -- a move that is there has room
  abbrev pub IsRoomy : Option Move → Type 0
  IsRoomy move = (k : Move) → move ≡ Some k → HasRoomForMove tiles words l.scripts f k

  sends_room : RoomToSend l.scripts f t → RoomToNoteIssue l g t
  sends_room r =
      let lines = within_length l.scripts t (let e = scripts in omega (arith, e, t_in)) in
      record {
        processor = subst (λ (n : ℕ). t < n) (sym fits.issues) t_in;
        lines = lines.0;
        script = lines.1;
        issues = subst (λ (n : ℕ). n < operation_count lines.0) (sym (within.issues t)) (r.issued lines.0 lines.1);
      }

  serves_room : (source index : ℕ) → t < tiles → length (list_at f.entries t) < home_room tiles t l.scripts → length g.rows < total_count l.scripts
      → source < tiles → index < length (processor_at f source).issued → RoomToNoteService l g t source index
  serves_room source index here home rows source_in index_in =
      let same = within.positions t in
      let some = total_within f.entries t in
      let all = within.rows in
      record {
        bank = subst (λ (n : ℕ). t < n) (sym fits.positions) here;
        positions = subst (λ (n : ℕ). n < home_room tiles t l.scripts) (sym same) home;
        services = omega (arith, same, some, all, rows);
        rows = rows;
        source_in = subst (λ (n : ℕ). source < n) (sym fits.issues) source_in;
        index_in = subst (λ (n : ℕ). index < n) (sym (within.issues source)) index_in;
      }

  module _ (b c : ProcessorRecord) where
    pub issue_room : (move : Option Move) → IsRoomy move → RecordMoved t b c move → length b.issued < length c.issued → RoomToNoteIssue l g t
    issue_room None room h more = let same = ap (λ (r : ProcessorRecord). length r.issued) h in absurd (omega (arith, more, same))
    issue_room (Some (Sends p tag o)) room h more = sends_room (subst (RoomToSend l.scripts f) h.0 (room (Sends p tag o) refl))
    issue_room (Some (Serves r)) room h more = let same = ap (λ (r : ProcessorRecord). length r.issued) h in absurd (omega (arith, more, same))
    issue_room (Some (Takes r)) room h more = let same = ap (λ (r : ProcessorRecord). length r.issued) h in absurd (omega (arith, more, same))

    pub answer_room : (move : Option Move) → IsRoomy move → RecordMoved t b c move → (a : Answer) → slice_get c.answers (length b.answers) ≡ Some a
        → RoomToNoteAnswer g a.bank a.place
    answer_room None room h a there = absurd (no_more b.answers c.answers a (ap (λ (r : ProcessorRecord). r.answers) h) there)
    answer_room (Some (Sends p tag o)) room h a there = absurd (no_more b.answers c.answers a (ap (λ (r : ProcessorRecord). r.answers) h.1) there)
    answer_room (Some (Serves r)) room h a there = absurd (no_more b.answers c.answers a (ap (λ (r : ProcessorRecord). r.answers) h) there)
    answer_room (Some (Takes r)) room h a there =
        let to_take = room (Takes r) refl in
        subst (λ (x : Answer). RoomToNoteAnswer g x.bank x.place)
        (last_pushed b.answers c.answers (answer_of b r) a (ap (λ (x : ProcessorRecord). x.answers) h) there)
        (record {
          bank_in = subst (λ (n : ℕ). r.source < n) (sym fits.positions) to_take.source;
          place_in = subst (λ (n : ℕ). r.place < n) (sym (within.positions r.source)) to_take.place;
          row = within.row r.source r.place to_take.place;
        })

  pub service_room : (m : List ℕ) (es fs : List Entry) (move : Option Move) → IsRoomy move → ((r : Request) → move ≡ Some (Serves r) → r.destination ≡ t)
      → EntriesMoved tiles t m es fs move
      → (e : Entry) → slice_get fs (length es) ≡ Some e → RoomToNoteService l g t e.source (index_of (processor_at f e.source) e.tag.0)
  service_room m es fs None room here h e there = absurd (no_more es fs e h there)
  service_room m es fs (Some (Sends p tag o)) room here h e there = absurd (no_more es fs e h there)
  service_room m es fs (Some (Takes r)) room here h e there = absurd (no_more es fs e h there)
  service_room m es fs (Some (Serves r)) room here h e there =
      let to_serve = subst (λ (b : ℕ). length (list_at f.entries b) < home_room tiles b l.scripts) (here r refl) (room (Serves r) refl).entries in
      let rows = within.rows in
      let all = (room (Serves r) refl).all in
      subst (λ (x : Entry). RoomToNoteService l g t x.source (index_of (processor_at f x.source) x.tag.0)) (last_pushed es fs _ e h there)
      (serves_room r.source (index_of (processor_at f r.source) r.tag.0) t_in to_serve (omega (arith, rows, all)) (room (Serves r) refl).source
      (room (Serves r) refl).holder)
