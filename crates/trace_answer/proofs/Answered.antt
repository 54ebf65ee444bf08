-- The answers of services.
use Rattle.std.proofs.Common.{◌≡◌, ℕ, ◌<◌, ◌==◌, ◌&&◌, Bool, true, false, List, length, take, Option, Some, None, refl, sym, ◌∙◌, ap, arith, subst, slice_get}
use Rattle.std.specs.Prelude.{count_by, filter, is_some, map, option_map}
use Rattle.std.proofs.lemmas.Bool.{eqb-true}
use Rattle.std.proofs.lemmas.List.Folds.{list_all_at}
use Rattle.std.proofs.lemmas.Option.{slice_get_within}
use Rattle.one_order.proofs.Counting.{count_apart, filter_at}
use Rattle.one_order.proofs.Lists.{within_length}
use Rattle.report_lines.specs.declared.parts.AnswerRow.{AnswerRow}
use Rattle.report_lines.specs.declared.line.OrderLine.{OrderLine}
use Rattle.report_check.specs.Facts.{rows_at, AreAnswers, AnswersAreTold, HasAnswer}
use Rattle.trace_laws.specs.declared.event.Call.{Call}
use Rattle.trace_text.specs.Traced.{TraceSpec}
use Rattle.trace_answer.specs.declared.times.Times.{Times}
use Rattle.trace_answer.specs.declared.service.Service.{Service}
use Rattle.trace_answer.specs.Numbers.{waits_of, number_behind}
use Rattle.trace_answer.specs.Times.{time_of}
use Rattle.trace_answer.specs.Services.{call_at, issued_call, is_on_bank, service_of, services_told}
use Rattle.trace_answer.specs.Contents.{answer_of_service, entry_of_service, service_line, all_answered, answers_at, answers_of_services, entries_of}
use Rattle.trace_answer.specs.Contents.{is_answered_to, is_at_bank}
use Rattle.trace_answer.proofs.Lists.{image_at, image_of, row_in, row_put, mapped_at, mapped_of, stood}
use Rattle.trace_answer.proofs.Given.{Given, index_low, known_there, once, processor_low}
use Rattle.trace_answer.proofs.Rows.{bank_count, entry_of, entry_there, same_number}
use Rattle.trace_answer.proofs.Numbered.{line_at}

both : (a b : Bool) → (a && b) ≡ true → (a ≡ true) × (b ≡ true)
both true b h = (refl, h)
both false b h = absurd (cc)

and_true : (a b : Bool) → a ≡ true → b ≡ true → (a && b) ≡ true
and_true a b h g = ap (λ x. x && b) h ∙ g

-- an answer is one of a service
pub record AnswerOf (t : TraceSpec) (tiles : ℕ) (times : List Times) (order : List Call) (p i : ℕ) (a : AnswerRow) : Type 0 where
  pub x : ℕ
  pub low : x < length order
  pub row : answer_of_service (service_of t tiles times order x) ≡ a
  pub processor : (service_of t tiles times order x).processor ≡ p
  pub answered : is_some (service_of t tiles times order x).answered ≡ true
  pub counts : count_by (is_answered_to p) (take x (services_told t tiles times order)) ≡ i

pub answer_of : (t : TraceSpec) (tiles : ℕ) (times : List Times) (order : List Call) (p i : ℕ) (a : AnswerRow)
    → slice_get (rows_at (answers_of_services tiles (services_told t tiles times order)) p) i ≡ Some a → AnswerOf t tiles times order p i a
answer_of t tiles times order p i a h =
    let f : ℕ → Service = service_of t tiles times order in
    let all : List Service = services_told t tiles times order in
    let r = row_in (answers_at all) tiles p i a h in
    let m = mapped_at answer_of_service (filter (is_answered_to p) all) i a r.1 in
    let d = stood (is_answered_to p) all i m.0 m.1 in
    let e = image_at f (length order) d.at m.0 d.there in
    let passes = both (m.0.processor == p) (is_some m.0.answered) d.passes in
    record {
      x = d.at;
      low = e.0;
      row = ap answer_of_service e.1 ∙ m.2;
      processor = ap (λ (s : Service). s.processor) e.1 ∙ eqb-true m.0.processor p passes.0;
      answered = ap (λ (s : Service). is_some s.answered) e.1 ∙ passes.1;
      counts = d.counts;
    }

-- and each answered service has one
pub answer_there : (t : TraceSpec) (tiles : ℕ) (times : List Times) (order : List Call) → Given t tiles times order → (x : ℕ) → x < length order
    → is_some (service_of t tiles times order x).answered ≡ true
    → HasAnswer (answers_of_services tiles (services_told t tiles times order)) (service_of t tiles times order x).bank (service_of t tiles times order x).place
answer_there t tiles times order g x l answered =
    let s : Service = service_of t tiles times order x in
    let all : List Service = services_told t tiles times order in
    let p : ℕ = (issued_call t.issued (call_at order x).id).processor in
    let i : ℕ = count_by (is_answered_to p) (take x all) in
    let there : slice_get all x ≡ Some s = image_of (service_of t tiles times order) (length order) x l in
    let kept : slice_get (filter (is_answered_to p) all) i ≡ Some s =
    filter_at (is_answered_to p) all x s there (and_true (p == p) (is_some s.answered) (same_number p) answered) in (
      p,
      i,
      answer_of_service s,
      row_put (answers_at all) tiles p i (answer_of_service s) (processor_low t tiles times order g x l)
          (mapped_of answer_of_service (filter (is_answered_to p) all) i s kept),
      refl,
      refl,
    )

-- services of one bank and one place are one
same_place : (t : TraceSpec) (tiles : ℕ) (times : List Times) (order : List Call) (x y : ℕ) → x < length order → y < length order
    → (service_of t tiles times order x).bank ≡ (service_of t tiles times order y).bank
    → (service_of t tiles times order x).place ≡ (service_of t tiles times order y).place → x ≡ y
same_place t tiles times order x y l m bank place =
    let all : List Service = services_told t tiles times order in
    let f : ℕ → Service = service_of t tiles times order in
    let b : ℕ = (f x).bank in
    let first : (f x).place ≡ count_by (is_at_bank b) (take x all) = sym (bank_count t tiles times order b x (omega arith)) in
    let second : (f y).place ≡ count_by (is_at_bank b) (take y all) =
    ap (λ c. count_by (is_on_bank tiles c) (take y order)) (sym bank) ∙ sym (bank_count t tiles times order b y (omega arith)) in
    count_apart (is_at_bank b) all x y (f x) (f y) (image_of f (length order) x l) (image_of f (length order) y m) (same_number b)
    (ap (λ c. c == b) (sym bank) ∙ same_number b)
    (sym first ∙ (place ∙ second))

-- so answers that name one service are one
same_answer : (t : TraceSpec) (tiles : ℕ) (times : List Times) (order : List Call) (p q i j : ℕ) (a c : AnswerRow)
    → (m : AnswerOf t tiles times order p i a) → (n : AnswerOf t tiles times order q j c) → m.x ≡ n.x → (p ≡ q) × (i ≡ j)
same_answer t tiles times order p q i j a c m n same =
    let all : List Service = services_told t tiles times order in
    let e : p ≡ q = sym m.processor ∙ (ap (λ x. (service_of t tiles times order x).processor) same ∙ n.processor) in
    (e, sym m.counts ∙ (ap (λ x. count_by (is_answered_to p) (take x all)) same ∙ (ap (λ r. count_by (is_answered_to r) (take n.x all)) e ∙ n.counts)))

pub are_answers : (t : TraceSpec) (tiles : ℕ) (times : List Times) (order : List Call) → Given t tiles times order
    → AreAnswers (entries_of tiles (services_told t tiles times order)) (answers_of_services tiles (services_told t tiles times order))
are_answers t tiles times order g =
    let f : ℕ → Service = service_of t tiles times order in
    let all : List Service = services_told t tiles times order in
    record {
      named = λ p i a h.
          let m = answer_of t tiles times order p i a h in
          let bank : (f m.x).bank ≡ a.bank = ap (λ (r : AnswerRow). r.bank) m.row in
          let place : (f m.x).place ≡ a.place = ap (λ (r : AnswerRow). r.place) m.row in
          record {
            entry = entry_of_service (f m.x);
            there = ap (λ b. slice_get (rows_at (entries_of tiles all) b) a.place) (sym bank)
                ∙ (ap (slice_get (rows_at (entries_of tiles all) (f m.x).bank)) (sym place) ∙ entry_there t tiles times order g.some m.x m.low);
            source = m.processor;
            reply = ap (λ (r : AnswerRow). r.reply) m.row;
          };
      low = λ p i a h.
          let m = answer_of t tiles times order p i a h in
          let e : (issued_call t.issued (call_at order m.x).id).index ≡ a.index = ap (λ (r : AnswerRow). r.index) m.row in
          omega (arith, e, index_low t tiles times order g m.x m.low);
      once = λ p i j a c h k same.
          let m = answer_of t tiles times order p i a h in
          let n = answer_of t tiles times order p j c k in
          let id = g.whole.apart (call_at order m.x).id (call_at order n.x).id (issued_call t.issued (call_at order m.x).id)
          (issued_call t.issued (call_at order n.x).id) (known_there t tiles times order g m.x m.low) (known_there t tiles times order g n.x n.low)
          (m.processor ∙ sym n.processor)
          (ap (λ (r : AnswerRow). r.index) m.row ∙ (same ∙ sym (ap (λ (r : AnswerRow). r.index) n.row))) in
          (same_answer t tiles times order p p i j a c m n (once t tiles times order g m.x n.x m.low n.low id)).1;
      apart = λ p q i j a c h k banks places.
          let m = answer_of t tiles times order p i a h in
          let n = answer_of t tiles times order q j c k in
          same_answer t tiles times order p q i j a c m n
          (same_place t tiles times order m.x n.x m.low n.low
          (ap (λ (r : AnswerRow). r.bank) m.row ∙ (banks ∙ sym (ap (λ (r : AnswerRow). r.bank) n.row)))
          (ap (λ (r : AnswerRow). r.place) m.row ∙ (places ∙ sym (ap (λ (r : AnswerRow). r.place) n.row))));
    }

pub are_told : (t : TraceSpec) (tiles : ℕ) (times : List Times) (order : List Call) → Given t tiles times order
    → AnswersAreTold (answers_of_services tiles (services_told t tiles times order)) (map service_line (services_told t tiles times order))
are_told t tiles times order g =
    let f : ℕ → Service = service_of t tiles times order in
    let all : List Service = services_told t tiles times order in
    record {
      answered = λ k n o h is.
          let a = line_at t tiles times order k o h in
          let some : is_some (f k).answered ≡ true = ap (λ (p : OrderLine). is_some p.answered) a.1 ∙ ap is_some is in
          subst (λ (p : OrderLine). HasAnswer (answers_of_services tiles all) p.bank p.place) a.1 (answer_there t tiles times order g k a.0 some);
      unanswered = λ k o h none has.
          let a = line_at t tiles times order k o h in
          let m = answer_of t tiles times order has.0 has.1 has.2 has.3 in
          let bank : (f m.x).bank ≡ (f k).bank =
          ap (λ (r : AnswerRow). r.bank) m.row ∙ (has.4 ∙ sym (ap (λ (p : OrderLine). p.bank) a.1)) in
          let place : (f m.x).place ≡ (f k).place =
          ap (λ (r : AnswerRow). r.place) m.row ∙ (has.5 ∙ sym (ap (λ (p : OrderLine). p.place) a.1)) in
          let same = same_place t tiles times order m.x k m.low a.0 bank place in
          let wrong : true ≡ false =
          sym m.answered ∙ (ap (λ x. is_some (f x).answered) same ∙ (ap (λ (p : OrderLine). is_some p.answered) a.1 ∙ ap is_some none)) in
          cc;
    }

some_mapped : (f : ℕ → ℕ) (o : Option ℕ) → is_some o ≡ true → is_some (option_map f o) ≡ true
some_mapped f None h = absurd (cc)
some_mapped f (Some x) h = refl

is_true : (a : Bool) → (a ≡ false → ⊥) → a ≡ true
is_true true h = refl
is_true false h = absurd (h refl)

-- where each operation has an answer, so has each entry
pub complete : (t : TraceSpec) (tiles : ℕ) (times : List Times) (order : List Call) → Given t tiles times order → all_answered times ≡ true
    → (bank place : ℕ) → place < length (rows_at (entries_of tiles (services_told t tiles times order)) bank)
    → HasAnswer (answers_of_services tiles (services_told t tiles times order)) bank place
complete t tiles times order g all bank place l =
    let services : List Service = services_told t tiles times order in
    let at = within_length (rows_at (entries_of tiles services) bank) place l in
    let e = entry_of t tiles times order bank place at.0 at.1 in
    let id : ℕ = (call_at order e.x).id in
    let known = slice_get_within t.issued id (issued_call t.issued id) (known_there t tiles times order g e.x e.low) in
    let low : id < length times = omega (arith, g.told.sized, known) in
    let answered : is_some (time_of times id).answered ≡ true =
    is_true (is_some (time_of times id).answered)
    (λ no. let wrong : true ≡ false = sym all ∙ list_all_at (λ (u : Times). is_some u.answered) times id (record { issued = 0; answered = None }) low no in cc) in
    let has = answer_there t tiles times order g e.x e.low (some_mapped (number_behind (waits_of times order)) (time_of times id).answered answered) in
    subst (λ b. HasAnswer (answers_of_services tiles services) b place) e.bank
    (subst (HasAnswer (answers_of_services tiles services) (service_of t tiles times order e.x).bank) e.at has)
