-- The report of an order of a trace.
use Rattle.std.specs.Prelude.{◌≡◌, ℕ, List, length, map}
use Rattle.torus.specs.Shape.{Shape, tiles_of}
use Rattle.report_lines.specs.declared.line.ReportLine.{ReportLine}
use Rattle.report_lines.specs.declared.parts.Parts.{Parts}
use Rattle.report_lines.specs.Contents.{items_of, report_lines_of}
use Rattle.trace_laws.specs.declared.event.Call.{Call}
use Rattle.trace_laws.specs.Orders.{memory_of}
use Rattle.trace_text.specs.Traced.{TraceSpec, opening_of}
use Rattle.trace_answer.specs.declared.times.Times.{Times}
use Rattle.trace_answer.specs.Times.{AreTimes}
use Rattle.trace_answer.specs.Fitting.{processors_of, shape_for}
use Rattle.trace_answer.specs.Services.{services_told}
use Rattle.trace_answer.specs.Contents.{service_line, entries_of, answers_of_services, all_answered}

-- the shape of the report of a trace
abbrev pub shape_told : TraceSpec → Shape
shape_told t = shape_for (processors_of t.issued)

-- the number of tiles, and of banks, of the report of a trace
abbrev pub banks_of : TraceSpec → ℕ
banks_of t = tiles_of (shape_told t)

-- the report of an order of a trace, whose operations were issued and answered at these times: each
-- is served in the order, by the home bank of its address, and answered as the trace says
abbrev pub trace_report_with : TraceSpec → List Times → List Call → List ReportLine
trace_report_with t times order = report_lines_of (shape_told t) (opening_of t)
    (entries_of (banks_of t) (services_told t (banks_of t) times order))
    (answers_of_services (banks_of t) (services_told t (banks_of t) times order))
    (memory_of (opening_of t) order)
    (map service_line (services_told t (banks_of t) times order))
    (all_answered times)

-- the lines are those of the report of an order of a trace
pub record IsReportOfOrder (t : TraceSpec) (order : List Call) (lines : List ReportLine) : Type 0 where
  pub times : List Times
  pub told : AreTimes t.events (length t.issued) times
  pub is : lines ≡ trace_report_with t times order

-- these are the parts of the report of an order of a trace
pub record AreParts {A : Type 0} (t : TraceSpec) (times : List Times) (order : List Call)
    (parts : Parts A) : Type 0 where
  pub torus : parts.torus ≡ shape_told t
  pub opening : parts.opening.items ≡ opening_of t
  pub entries : items_of parts.entries.items
      ≡ entries_of (banks_of t) (services_told t (banks_of t) times order)
  pub answers : items_of parts.answers.items
      ≡ answers_of_services (banks_of t) (services_told t (banks_of t) times order)
  pub last : parts.last.items ≡ memory_of (opening_of t) order
  pub ordered : parts.order.items ≡ map service_line (services_told t (banks_of t) times order)
  pub finished : parts.finished ≡ all_answered times
