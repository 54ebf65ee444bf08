-- The report of an order of a trace is a good one.
use Rattle.std.proofs.Common.{◌≡◌, inr, ℕ, ◌<◌, ◌==◌, All, Bool, List, length, map, take, refl, sym, ◌∙◌, ap, subst, arith}
use Rattle.std.specs.Prelude.{count_by}
use Rattle.std.proofs.lemmas.List.{take-map}
use Rattle.std.proofs.lemmas.Option.{slice_get_within}
use Rattle.torus.specs.Shape.{Shape, IsAccepted}
use Rattle.one_order.proofs.Lists.{within_length}
use Rattle.report_lines.specs.Line.{text_of}
use Rattle.report_lines.specs.Contents.{report_lines_of}
use Rattle.report_lines.specs.declared.line.OrderLine.{OrderLine}
use Rattle.report_lines.specs.declared.line.ReportLine.{ReportLine}
use Rattle.report_lines.specs.declared.parts.EntryRow.{EntryRow}
use Rattle.report_lines.specs.declared.parts.AnswerRow.{AnswerRow}
use Rattle.report_lines.specs.Fits.{FitsLine}
use Rattle.report_check.specs.Good.{AreGood, GoodReport}
use Rattle.report_check.specs.Facts.{rows_at, AreContents, AreOrdered}
use Rattle.trace_laws.specs.declared.event.Call.{Call}
use Rattle.trace_laws.specs.Orders.{IsOrder, memory_of}
use Rattle.trace_text.specs.Traced.{TraceSpec, opening_of}
use Rattle.trace_answer.specs.declared.times.Times.{Times}
use Rattle.trace_answer.specs.declared.service.Service.{Service}
use Rattle.trace_answer.specs.Numbers.{waits_of, service_number}
use Rattle.trace_answer.specs.Services.{service_of, services_told}
use Rattle.trace_answer.specs.Contents.{service_line, entry_of_service, entries_of, answers_of_services, all_answered}
use Rattle.trace_answer.specs.Fitting.{IsFit}
use Rattle.trace_answer.specs.Report.{IsReportOfOrder, trace_report_with, shape_told, banks_of}
use Rattle.trace_answer.specs.Times.{AreTimes}
use Rattle.trace_answer.specs.Whole.{IsWholeTrace}
use Rattle.trace_answer.proofs.Lists.{count_map, image_of, mapped_of}
use Rattle.trace_text.proofs.Opening.{length-opening}
use Rattle.trace_answer.proofs.Given.{Given}
use Rattle.trace_answer.proofs.Rows.{bank_count, entry_of, entry_there}
use Rattle.trace_answer.proofs.Numbered.{line_at, numbered, services_rise}
use Rattle.trace_answer.proofs.Replayed.{are_entries}
use Rattle.trace_answer.proofs.Answered.{are_answers, are_told, complete}
use Rattle.trace_answer.proofs.Shapes.{processor_below}

-- the order lines name the entries in their turn
are_ordered : (t : TraceSpec) (tiles : ℕ) (times : List Times) (order : List Call) → Given t tiles times order
    → AreOrdered (entries_of tiles (services_told t tiles times order)) (map service_line (services_told t tiles times order))
are_ordered t tiles times order g =
    let f : ℕ → Service = service_of t tiles times order in
    let all : List Service = services_told t tiles times order in
    record {
      named = λ k o h.
          let a = line_at t tiles times order k o h in
          subst (λ (p : OrderLine). p.place < length (rows_at (entries_of tiles all) p.bank)) a.1
          (slice_get_within (rows_at (entries_of tiles all) (f k).bank) (f k).place (entry_of_service (f k)) (entry_there t tiles times order g.some k a.0));
      turn = λ k o h.
          let a = line_at t tiles times order k o h in
          let low : k < length order = a.0 in
          subst (λ (p : OrderLine). p.place ≡ count_by (λ x. x.bank == p.bank) (take k (map service_line all))) a.1
          (sym (ap (count_by (λ (x : OrderLine). x.bank == (f k).bank)) (take-map service_line k all)
          ∙ (count_map service_line (λ (x : OrderLine). x.bank == (f k).bank) (take k all)
          ∙ bank_count t tiles times order (f k).bank k (omega arith))));
      rising = λ j k x y less hx hy.
          let a = line_at t tiles times order j x hx in
          let b = line_at t tiles times order k y hy in
          let rise = services_rise times order j k b.0 less in
          subst (λ (p : OrderLine). x.served < p.served) b.1
          (subst (λ (p : OrderLine). p.served < service_number (waits_of times order) k) a.1 rise);
      every = inr (λ bank place l.
          let at = within_length (rows_at (entries_of tiles all) bank) place l in
          let e = entry_of t tiles times order bank place at.0 at.1 in
          (e.x, service_line (f e.x), mapped_of service_line all e.x (f e.x) (image_of f (length order) e.x e.low), e.bank, e.at));
    }

-- the contents of the report are those of a good one
contents : (t : TraceSpec) (times : List Times) (order : List Call) → IsAccepted (shape_told t) → Given t (banks_of t) times order
    → AreContents (shape_told t) (opening_of t) (entries_of (banks_of t) (services_told t (banks_of t) times order))
    (answers_of_services (banks_of t) (services_told t (banks_of t) times order)) (memory_of (opening_of t) order)
    (map service_line (services_told t (banks_of t) times order)) (all_answered times)
contents t times order accepted g = record {
  accepted = accepted;
  words_low = omega (arith, g.whole.words, length-opening t);
  words_high = omega (arith, g.fit.words, length-opening t);
  entered = are_entries t (banks_of t) times order g;
  answered = are_answers t (banks_of t) times order g;
  ordered = are_ordered t (banks_of t) times order g;
  numbered = numbered t (banks_of t) times order g;
  told = are_told t (banks_of t) times order g;
  complete = complete t (banks_of t) times order g;
}

pub given : (t : TraceSpec) (times : List Times) (order : List Call) → 0 < banks_of t → IsWholeTrace t → IsOrder (opening_of t) t.events order
    → AreTimes t.events (length t.issued) times → IsFit t order → Given t (banks_of t) times order
given t times order some whole explains told fit = record {
  some = some;
  whole = whole;
  explains = explains;
  told = told;
  fit = fit;
  below = λ n i h. processor_below t.issued fit.issued n i h;
}

-- the law of good contents
abbrev ContentsAreGood : Type 0
ContentsAreGood =
    (shape : Shape) (opening : List ℕ) (entries : List (List EntryRow)) (answers : List (List AnswerRow)) (last : List ℕ) (order : List OrderLine)
    (finished : Bool)
    → AreContents shape opening entries answers last order finished
    → All FitsLine (report_lines_of shape opening entries answers last order finished)
    → AreGood (report_lines_of shape opening entries answers last order finished)

pub good_report : (t : TraceSpec) (order : List Call) (lines : List ReportLine) → ContentsAreGood → IsAccepted (shape_told t) → 0 < banks_of t
    → IsWholeTrace t → IsOrder (opening_of t) t.events order
    → IsFit t order → IsReportOfOrder t order lines → All FitsLine lines → GoodReport (text_of lines)
good_report t order lines law accepted some whole explains fit r fits =
    let g = given t r.times order some whole explains r.told fit in
    let good : AreGood (trace_report_with t r.times order) =
    law (shape_told t) (opening_of t) (entries_of (banks_of t) (services_told t (banks_of t) r.times order))
    (answers_of_services (banks_of t) (services_told t (banks_of t) r.times order)) (memory_of (opening_of t) order)
    (map service_line (services_told t (banks_of t) r.times order)) (all_answered r.times)
    (contents t r.times order accepted g) (subst (All FitsLine) r.is fits) in
    record { lines = lines; printed = refl; good = subst AreGood (sym r.is) good }
