-- What a flight shows goes with the rows of its one order.
use Rattle.std.proofs.Common.{◌≡◌, ⊎_elim, ℕ, ◌<◌, ◌≤◌, true, List, [], length, Option, Some, None, refl, ◌∙◌, ap, subst, arith}
use Rattle.std.proofs.Common.{slice_get, ◌↔◌}
use Rattle.std.proofs.lemmas.Bool.{cases_lt}
use Rattle.std.proofs.lemmas.List.{get_or_past}
use Rattle.std.proofs.lemmas.Option.{slice_get_within, get_or_from_slice_get}
use Rattle.script_lines.specs.declared.line.Line.{Line}
use Rattle.script_lines.specs.Lines.{AreAcceptedScripts, IsAcceptedScript}
use Rattle.one_order.proofs.Shown.{left_within}
use Rattle.one_order.proofs.Followable.{accepted_followable}
use Rattle.one_order.specs.declared.ordered.Ordered.{Ordered}
use Rattle.one_order.specs.Observed.{Observed, Run, list_at, event_count, HasIssued, HasAnswered, total}
use Rattle.one_order.specs.Order.{LinearizationPoint}
use Rattle.one_order.specs.Rows.{IsAnswerNumber}
use Rattle.one_order.specs.Events.{order_after}
use Rattle.one_order.specs.OneOrder.{HasOneOrder}
use Rattle.one_order.proofs.Lists.{within_length}
use Rattle.one_order.proofs.BankReplay.{banks_replay, name_entries}
use Rattle.one_order.proofs.EventNumbers.{numbers}
use Rattle.one_order.proofs.InTurn.{serves_in_turn}
use Rattle.one_order.proofs.AnswersInTurn.{answers_in_turn}
use Rattle.one_order.proofs.Naming.{answers_numbered, answers_name, entry_stands}
use Rattle.one_order.specs.Flight.{Flight, Move, IsFound, show, processors_finished}
use Rattle.one_order.specs.Courses.{IsCourse, course_run, events_of}
use Rattle.one_order.specs.AbstractScripts.{AreFinished}
use Rattle.one_order.specs.EventBook.{book_of}
use Rattle.one_order.specs.Room.{IsWithin, IsBookWithin, HasRoomForMove}
use Rattle.one_order.specs.Reported.{ShowsWell}
use Rattle.one_order.proofs.Courses.{holds_at}
use Rattle.one_order.proofs.EventBooks.{kept, order_of_book}
use Rattle.one_order.proofs.Balances.{balanced}
use Rattle.one_order.proofs.Bounds.{Moment, can_follow, within, book_within, room_for}
use Rattle.one_order.proofs.Finished.{finished_law}
use Rattle.one_order.specs.Scripts.{IsFollowable}

module _ (tiles tags : ℕ) (opening : List ℕ) (scripts : List (List Line)) (run : Run) (n : ℕ) (f : Flight) (order : List LinearizationPoint)
    (h : Moment tiles tags opening scripts run n f order) (rows : List Ordered) (one : HasOneOrder tiles tags opening run n rows)
    (accepted : AreAcceptedScripts (record { words = length opening; lists = scripts })) where
  issued_script : (p i : ℕ) → HasIssued (run n) p i → p < length scripts
  issued_script p i is =
      let found = within_length (list_at (run n).issued p) i is in
      ⊎_elim
      (λ (in_scripts : p < length scripts). in_scripts)
      (λ (past : length scripts ≤ p).
      let count = one.shown.processors in
      let empty : list_at (run n).issued p ≡ [] = get_or_past (run n).issued p [] (omega (arith, past, count, h.processors)) in
      let none = ap (λ (xs : List _). length xs) empty in
      absurd (omega (arith, is, none)))
      (cases_lt p (length scripts))

  index_low : (p i : ℕ) → HasIssued (run n) p i → i < 4096
  index_low p i is =
      let script = within_length scripts p (issued_script p i is) in
      let g = h.follows p script.0 script.1 in
      let most = left_within script.0 g.ops _ (can_follow tiles tags opening scripts run n f order h p script.0 script.1) g.shows in
      let read : IsAcceptedScript (length opening) script.0 =
      subst (IsAcceptedScript (length opening)) (get_or_from_slice_get scripts p script.0 [] script.1) (accepted.each p) in
      omega (arith, is, most, g.are.count, read.count)

  -- where every script is finished, what is issued is answered
  all_answered : processors_finished f ≡ true → (p i : ℕ) → HasIssued (run n) p i → HasAnswered (run n) p i
  all_answered done p i is =
      let finished : AreFinished run n scripts =
      (finished_law tiles tags opening scripts run n f order h (λ q j k a b hj hk same. one.services.once q j k a b hj hk same)).0 done in
      let g = finished.each p (issued_script p i is) in
      let o = within_length g.ops i (omega (arith, is, g.are.count)) in
      let a = g.finished.finished.answered i o.0 o.1 in
      let t = (g.are.answered i o.0 a.0 a.1 o.1 a.2).1 in
      (t.0, t.1, t.2, t.3)

  row_answered : processors_finished f ≡ true → (k : ℕ) (row : Ordered) → slice_get rows k ≡ Some row → row.answered ≡ None → ⊥
  row_answered done k row there none =
      let x = within_length one.order k (let short = slice_get_within rows k row there in let same = one.numbered.count in omega (arith, short, same)) in
      let is = one.numbered.each k x.0 row x.1 there in
      let named = (name_entries tiles tags opening run n rows one).named k row there in
      let issued : HasIssued (run n) row.source row.index = slice_get_within (list_at (run n).issued row.source) row.index _ named.operation in
      let answered = all_answered done row.source row.index issued in
      let not : HasAnswered (run n) x.0.source x.0.index → ⊥ = subst (IsAnswerNumber run n x.0.source x.0.index) none is.answered in
      not (subst (λ (p : ℕ). HasAnswered (run n) p x.0.index) is.source (subst (λ (i : ℕ). HasAnswered (run n) row.source i) is.index answered))

  pub shows_well : ShowsWell tiles tags opening (run n) (processors_finished f) rows
  shows_well =
      let bounds = within tiles tags opening scripts run n f order h in
      let count = (name_entries tiles tags opening run n rows one).count ∙ ap (λ (x : Observed). total x.entries) h.shown in
      record {
        sizes = one.shown;
        stands = entry_stands tiles tags opening run n rows one;
        replay = banks_replay tiles tags opening run n rows one;
        answers = answers_name tiles tags opening run n rows one;
        entries = name_entries tiles tags opening run n rows one;
        answered = answers_numbered tiles tags opening run n rows one;
        numbers = numbers tiles tags opening run n rows one;
        turns = serves_in_turn tiles tags opening run n rows one;
        answer_turns = answers_in_turn tiles tags opening run n rows one;
        few = omega (arith, bounds.asked, count, accepted.total);
        events =
            let here = ap event_count h.shown in
            let asked = h.whole.counted.asked in
            let told = h.whole.counted.told in
            omega (arith, bounds.asked, here, asked, told, accepted.total);
        indexes = index_low;
        complete = all_answered;
        complete_rows = row_answered;
      }

module _ (tiles tags : ℕ) (opening : List ℕ) (scripts : List (List Line)) (flight : ℕ → Flight) (move : ℕ → Option Move) where
  -- a moment of a course
  pub moment : (n : ℕ) → IsCourse tiles tags opening scripts flight move n → ((p : ℕ) → p < length scripts → IsFollowable (list_at scripts p))
      → Moment tiles tags opening scripts (course_run flight) n (flight n) (order_after (events_of flight move) n)
  moment n c good =
      let at = holds_at tiles tags opening scripts flight move n c in
      record {
        whole = at.whole;
        shown = refl;
        follows = at.follows;
        balanced = balanced tiles tags opening scripts flight move n c;
        processors = c.processors;
        followable = good;
      }

  -- scripts that are accepted can be followed
  pub all_followable : AreAcceptedScripts (record { words = length opening; lists = scripts }) → (p : ℕ) → p < length scripts → IsFollowable (list_at scripts p)
  all_followable accepted p below = accepted_followable (length opening) (list_at scripts p) (accepted.each p)

  pub one_order : (n : ℕ) → IsCourse tiles tags opening scripts flight move n
      → HasOneOrder tiles tags opening (course_run flight) n (book_of tiles (events_of flight move) n).rows
  one_order n c = order_of_book tiles tags opening (course_run flight) (events_of flight move) n (holds_at tiles tags opening scripts flight move n c).history

  pub course_within : (n : ℕ) → IsCourse tiles tags opening scripts flight move n → ((p : ℕ) → p < length scripts → IsFollowable (list_at scripts p))
      → IsWithin tiles scripts (flight n)
  course_within n c good = within tiles tags opening scripts (course_run flight) n (flight n) _ (moment n c good)

  pub course_book : (n : ℕ) → IsCourse tiles tags opening scripts flight move n → ((p : ℕ) → p < length scripts → IsFollowable (list_at scripts p))
      → IsBookWithin scripts (flight n) (book_of tiles (events_of flight move) n)
  course_book n c good = book_within tiles tags opening scripts (course_run flight) n (flight n) _ (moment n c good)
      (book_of tiles (events_of flight move) n)
      (kept tiles tags opening (course_run flight) (events_of flight move) n (holds_at tiles tags opening scripts flight move n c).history).book
      (one_order n c)

  pub course_room : (n : ℕ) → IsCourse tiles tags opening scripts flight move n → ((p : ℕ) → p < length scripts → IsFollowable (list_at scripts p))
      → (m : Move) → IsFound (length opening) (flight n) m → HasRoomForMove tiles (length opening) scripts (flight n) m
  course_room n c good m found = room_for tiles tags opening scripts (course_run flight) n (flight n) _ (moment n c good) m found

  pub course_finished : (n : ℕ) → IsCourse tiles tags opening scripts flight move n → ((p : ℕ) → p < length scripts → IsFollowable (list_at scripts p))
      → (processors_finished (flight n) ≡ true) ↔ AreFinished (course_run flight) n scripts
  course_finished n c good = finished_law tiles tags opening scripts (course_run flight) n (flight n) _ (moment n c good)
      (λ q j k a b hj hk same. (one_order n c).services.once q j k a b hj hk same)

  pub course_shows : (n : ℕ) → IsCourse tiles tags opening scripts flight move n → AreAcceptedScripts (record { words = length opening; lists = scripts })
      → ShowsWell tiles tags opening (show (flight n)) (processors_finished (flight n)) (book_of tiles (events_of flight move) n).rows
  course_shows n c accepted =
      shows_well tiles tags opening scripts (course_run flight) n (flight n) _ (moment n c (all_followable accepted)) _ (one_order n c) accepted
