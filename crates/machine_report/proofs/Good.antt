-- The report of what some steps lead to from an accepted load is a good one.
use Rattle.std.proofs.Common.{◌≡◌, ℕ, All, Bool, List, [], map, Some, slice_get, inl, ⊎_elim, refl, sym, subst, arith}
use Rattle.std.proofs.lemmas.Option.{none-some}
use Rattle.torus.specs.Shape.{Shape, tiles_of}
use Rattle.one_order.specs.Observed.{event_count}
use Rattle.report_lines.specs.Line.{text_of}
use Rattle.report_lines.specs.Contents.{report_lines_of}
use Rattle.report_lines.specs.declared.line.OrderLine.{OrderLine}
use Rattle.report_lines.specs.declared.line.ReportLine.{ReportLine}
use Rattle.report_lines.specs.declared.parts.EntryRow.{EntryRow}
use Rattle.report_lines.specs.declared.parts.AnswerRow.{AnswerRow}
use Rattle.report_lines.specs.Fits.{FitsLine}
use Rattle.report_check.specs.Good.{AreGood, GoodReport}
use Rattle.report_check.specs.Facts.{AnswersAreTold, AreContents, AreNumbered, AreOrdered}
use Rattle.core_laws.specs.Machine.{Core, shown, all_finished}
use Rattle.core_laws.specs.Reported.{ReportsWell}
use Rattle.machine_report.specs.Report.{IsReportOf, answer_row, entry_row, order_line, report_with}
use Rattle.machine_report.proofs.Contents.{answered, complete, entered, numbered, ordered, told}

-- what is shown, with these order lines, are the contents of a good report
abbrev HasContents : Core → List OrderLine → Type 0
HasContents c order = AreContents c.shape c.opening (map (map entry_row) (shown c).entries) (map (map answer_row) (shown c).answers) (shown c).memory order
    (all_finished c.state)

-- they are, where the order lines tell the order
with_lines : (c : Core) (order : List OrderLine) → ReportsWell c → AreOrdered (map (map entry_row) (shown c).entries) order → AreNumbered order
    → AnswersAreTold (map (map answer_row) (shown c).answers) order → HasContents c order
with_lines c order well rise have_numbers have_answers =
    record {
      accepted = well.shape;
      words_low = well.words_low;
      words_high = well.words_high;
      entered = entered (tiles_of c.shape) c.tags c.opening (shown c) well.tags (let rows = well.shows.entries.count in omega (arith, rows, well.shows.few))
          well.shows.stands well.shows.replay;
      answered = answered (shown c) well.shows.answers well.shows.indexes;
      ordered = rise;
      numbered = have_numbers;
      told = have_answers;
      complete = λ done. complete (shown c) c.book.rows well.shows.entries well.shows.answered (well.shows.complete_rows done);
    }

-- the lines of the one order do
with_order : (c : Core) → ReportsWell c → HasContents c (map order_line c.book.rows)
with_order c well =
    with_lines c (map order_line c.book.rows) well
    (ordered (shown c) c.book.rows (event_count (shown c)) well.shows.entries well.shows.numbers)
    (numbered c.book.rows (event_count (shown c)) well.shows.events well.shows.numbers)
    (told (shown c) c.book.rows well.shows.answered)

-- there is no line among none
none_there : (k : ℕ) (o : OrderLine) → slice_get [] k ≡ Some o → ⊥
none_there k o there = none-some o there

-- no lines do
without_order : (c : Core) → ReportsWell c → HasContents c []
without_order c well =
    with_lines c [] well
    (record {
      named = λ k o there. absurd (none_there k o there);
      turn = λ k o there. absurd (none_there k o there);
      rising = λ j k x y less there also. absurd (none_there j x there);
      every = inl refl;
    })
    (record {
      issued_first = λ k o there. absurd (none_there k o there);
      answered_last = λ k event o there is. absurd (none_there k o there);
      distinct = λ j k event x y there also has too. absurd (none_there j x there);
      low = λ k event o there has. absurd (none_there k o there);
      high = λ k event o there has. absurd (none_there k o there);
    })
    (record {
      answered = λ k event o there is. absurd (none_there k o there);
      unanswered = λ k o there none has. none_there k o there;
    })

-- the law of good contents
abbrev ContentsAreGood : Type 0
ContentsAreGood =
    (shape : Shape) (opening : List ℕ) (entries : List (List EntryRow)) (answers : List (List AnswerRow)) (last : List ℕ) (order : List OrderLine)
    (finished : Bool)
    → AreContents shape opening entries answers last order finished
    → All FitsLine (report_lines_of shape opening entries answers last order finished)
    → AreGood (report_lines_of shape opening entries answers last order finished)

good_lines : (c : Core) (order : List OrderLine) (lines : List ReportLine) → ContentsAreGood → HasContents c order → lines ≡ report_with c order
    → All FitsLine lines → GoodReport (text_of lines)
good_lines c order lines law has is fits =
    let good : AreGood (report_with c order) =
    law c.shape c.opening (map (map entry_row) (shown c).entries) (map (map answer_row) (shown c).answers) (shown c).memory order (all_finished c.state)
    has (subst (All FitsLine) is fits) in
    record { lines = lines; printed = refl; good = subst AreGood (sym is) good }

pub good_report : (c : Core) (lines : List ReportLine) → ContentsAreGood → ReportsWell c → IsReportOf c lines → All FitsLine lines → GoodReport (text_of lines)
good_report c lines law well is fits =
    ⊎_elim
    (λ short. good_lines c [] lines law (without_order c well) short fits)
    (λ whole. good_lines c (map order_line c.book.rows) lines law (with_order c well) whole fits)
    is
