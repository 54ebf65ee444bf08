-- The parts of the report of an order are within the limits of a report.
use Rattle.std.proofs.Common.{◌≡◌, ◌<◌, ◌≤◌, ℕ, All, Bool, List, length, sym, subst, ◌∙◌, ap, arith}
use Rattle.std.specs.Prelude.{filter, Result, Ok, Err, IfOk}
use Rattle.std.proofs.lemmas.List.{length-map}
use Rattle.std.proofs.lemmas.List.FromFn.{get_or-map-range_with_len, length-map-range_with_len}
use Rattle.std.proofs.lemmas.List.Sums.{length-filter, count_by-le-length}
use Rattle.packet.proofs.Folds.{length-memory_after}
use Rattle.torus.specs.Shape.{Shape, IsAccepted}
use Rattle.report_lines.specs.declared.line.OrderLine.{OrderLine}
use Rattle.report_lines.specs.declared.line.ReportLine.{ReportLine}
use Rattle.report_lines.specs.declared.parts.AnswerRow.{AnswerRow}
use Rattle.report_lines.specs.Parts.{FitReport, contents_of, lines_of_parts}
use Rattle.report_lines.specs.declared.parts.Parts.{Parts}
use Rattle.report_lines.specs.declared.parts.EntryRow.{EntryRow}
use Rattle.report_lines.specs.Contents.{report_lines_of}
use Rattle.trace_laws.specs.declared.event.Call.{Call}
use Rattle.trace_laws.specs.Orders.{operations_of}
use Rattle.trace_text.specs.Traced.{TraceSpec, opening_of}
use Rattle.trace_answer.specs.declared.service.Service.{Service}
use Rattle.trace_answer.specs.declared.times.Times.{Times}
use Rattle.trace_answer.specs.Contents.{answers_at, entries_of, entries_of_bank, entry_of_service, is_at_bank}
use Rattle.trace_answer.specs.Fitting.{IsFit}
use Rattle.trace_answer.specs.Report.{AreParts, IsReportOfOrder, banks_of, shape_told}
use Rattle.trace_answer.specs.Times.{AreTimes}
use Rattle.trace_answer.specs.Services.{service_of, services_told}
use Rattle.trace_text.proofs.Opening.{length-opening}

abbrev all_of : TraceSpec → List Times → List Call → List Service
all_of t times order = services_told t (banks_of t) times order

-- the entries of each bank are at most as many as the operations
places_fit : (t : TraceSpec) (times : List Times) (order : List Call) → IsFit t order
    → All (λ es. length es ≤ 65536) (entries_of (banks_of t) (all_of t times order))
places_fit t times order fit k d below =
    let all : List Service = all_of t times order in
    let inside : k < banks_of t = omega (arith, below, length-map-range_with_len (entries_of_bank all) 0 (banks_of t)) in
    let rows = get_or-map-range_with_len (entries_of_bank all) 0 (banks_of t) k k d inside (omega arith) in
    let few = fit.operations in
    omega (
      arith,
      ap length rows,
      length-map (filter (is_at_bank k) all) entry_of_service,
      length-filter (is_at_bank k) all,
      count_by-le-length (is_at_bank k) all,
      length-map-range_with_len (service_of t (banks_of t) times order) 0 (length order),
      few,
    )

-- a report has room for the parts
pub parts_fit : {A : Type 0} (t : TraceSpec) (times : List Times) (order : List Call) (p : Parts A) → IsFit t order → IsAccepted (shape_told t)
    → AreParts t times order p → FitReport (contents_of p)
parts_fit t times order p fit accepted made =
    let few = accepted.tiles in
    let opening = ap length made.opening in
    let words = fit.words in
    let entries = ap length made.entries in
    let answers = ap length made.answers in
    let last = ap length made.last in
    record {
      opening = omega (arith, opening, words, length-opening t);
      banks = omega (arith, few, entries, length-map-range_with_len (entries_of_bank (all_of t times order)) 0 (banks_of t));
      places = subst (All (λ es. length es ≤ 65536)) (sym made.entries) (places_fit t times order fit);
      processors = omega (arith, few, answers, length-map-range_with_len (answers_at (all_of t times order)) 0 (banks_of t));
      last = omega (arith, opening, last, length-memory_after (operations_of order) (opening_of t));
    }

-- what is so of a value, where there is one
pub if_ok : {T E : Type 0} (P Q : T → Type 0) (r : Result T E) → ((x : T) → P x → Q x) → IfOk r P → IfOk r Q
if_ok P Q (Ok x) f h = f x h
if_ok P Q (Err e) f h = h

lines_same : (s u : Shape) (o p : List ℕ) (e f : List (List EntryRow)) (a b : List (List AnswerRow)) (l m : List ℕ) (r q : List OrderLine) (d h : Bool)
    → s ≡ u → o ≡ p → e ≡ f → a ≡ b → l ≡ m → r ≡ q → d ≡ h → report_lines_of s o e a l r d ≡ report_lines_of u p f b m q h
lines_same s u o p e f a b l m r q d h same1 same2 same3 same4 same5 same6 same7 =
    ap (λ x. report_lines_of x o e a l r d) same1
    ∙ (ap (λ x. report_lines_of u x e a l r d) same2
    ∙ (ap (λ x. report_lines_of u p x a l r d) same3
    ∙ (ap (λ x. report_lines_of u p f x l r d) same4
    ∙ (ap (λ x. report_lines_of u p f b x r d) same5
    ∙ (ap (λ x. report_lines_of u p f b m x d) same6
    ∙ ap (λ x. report_lines_of u p f b m q x) same7)))))

-- the report of such parts
pub reported : {A : Type 0} (t : TraceSpec) (times : List Times) (order : List Call) (p : Parts A) → AreTimes t.events (length t.issued) times
    → AreParts t times order p → (lines : List ReportLine) → lines ≡ lines_of_parts p → IsReportOfOrder t order lines
reported t times order p told made lines is = record {
  times = times;
  told = told;
  is = is ∙ lines_same _ _ _ _ _ _ _ _ _ _ _ _ _ _ made.torus made.opening made.entries made.answers made.last made.ordered made.finished;
}
