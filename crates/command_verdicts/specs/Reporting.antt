-- What the trace of a text is judged to be, and which report is printed then.
use Rattle.std.specs.Prelude.{◌≡◌, ℕ, List, [], Result, Ok, Err}
use Rattle.torus.specs.declared.fault.Fault.TheVariants as fault
use Rattle.report_lines.specs.Line.{text_of}
use Rattle.report_lines.specs.declared.line.ReportLine.{ReportLine}
use Rattle.report_check.specs.Good.{GoodReport}
use Rattle.trace_laws.specs.declared.event.Call.{Call}
use Rattle.trace_laws.specs.Orders.{IsOrder}
use Rattle.trace_text.specs.Traced.{TraceSpec, trace_of, opening_of}
use Rattle.trace_answer.specs.declared.unfit.Unfit.{Unfit}
use Rattle.trace_answer.specs.declared.unfit.Unfit.TheVariants.{Memory}
use Rattle.trace_answer.specs.Fitting.{IsUnfit}
use Rattle.trace_answer.specs.Report.{IsReportOfOrder}
use Rattle.program_fault.specs.declared.fault.ProgramFault.{ProgramFault}
use Rattle.program_fault.specs.declared.fault.ProgramFault.TheVariants as program
use Rattle.program_fault.specs.Done.{Output, Does}
use Rattle.command_verdicts.specs.declared.command.Judged.{Judged}
use Rattle.command_verdicts.specs.declared.command.Judged.TheVariants.{Linearizable, NoReport}
use Rattle.command_verdicts.specs.Judging.{IsJudged, IsTraceFault}

-- the text of the report of an order that explains a trace (Herlihy and Wing, TOPLAS 12(3), 1990: a
-- linearization); it is a good report
pub record IsReportText (t : TraceSpec) (text : List ℕ) : Type 0 where
  pub order : List Call
  pub explains : IsOrder (opening_of t) t.events order
  pub lines : List ReportLine
  pub reports : IsReportOfOrder t order lines
  pub is : text ≡ text_of lines
  pub good : GoodReport text

-- an order that explains a trace passes this limit of reports, and nothing is printed of it
pub record PassesLimit (t : TraceSpec) (why : Unfit) (text : List ℕ) : Type 0 where
  pub order : List Call
  pub explains : IsOrder (opening_of t) t.events order
  pub unfit : IsUnfit t order why
  pub silent : text ≡ []

-- a verdict on a trace is right, with so many configurations of a word allowed, and this is printed
-- then; where memory was refused, there is none
abbrev pub IsReported : TraceSpec → ℕ → Judged → List ℕ → Type 0
IsReported t bound Linearizable text = IsReportText t text
IsReported t bound (NoReport Memory) text = ⊥
IsReported t bound (NoReport why) text = PassesLimit t why text
IsReported t bound verdict text = IsJudged t bound verdict text

-- the trace that the lines of a text give is judged
pub record IsReportVerdict (lines : List (List ℕ)) (bound : ℕ) (verdict : Judged) (text : List ℕ) :
    Type 0 where
  pub trace : TraceSpec
  pub read : trace_of lines ≡ Ok trace
  pub reported : IsReported trace bound verdict text

-- what is answered where an order has no report: that memory was refused, or the limit
abbrev pub unreported : Unfit → Result Judged ProgramFault
unreported Memory = Err (program.Fault fault.Memory)
unreported why = Ok (NoReport why)

-- nothing of a trace that is read is a fault of the program
abbrev pub NeverFails : ProgramFault → Type 0
NeverFails e = ⊥

-- the report of an order of a trace was printed, if it has one
abbrev pub PutsTraceReport : TraceSpec → ℕ → Output → Output → Result Judged ProgramFault → Type 0
PutsTraceReport t bound = Does (IsReported t bound) NeverFails

-- the trace of a text was judged, with so many configurations of a word allowed, and the report of
-- its order printed, if it has one
abbrev pub PrintsReport : List (List ℕ) → ℕ → Output → Output → Result Judged ProgramFault → Type 0
PrintsReport lines bound = Does (IsReportVerdict lines bound) (IsTraceFault lines)
