-- What is printed of the order of a trace as a report.
use Rattle.std.proofs.Common.{◌≡◌, ◌+◌, ℕ, List, [], Some, slice_get, take, refl}
use Rattle.std.specs.Prelude.{Ok, Err, Result}
use Rattle.std.specs.Io.KnownBytes.{Appends}
use Rattle.std.proofs.KnownBytes.{Appends-nil}
use Rattle.report_lines.specs.Line.{text_of}
use Rattle.report_lines.specs.Taken.{AppendsFront, Rose}
use Rattle.report_lines.specs.declared.line.ReportLine.{ReportLine}
use Rattle.report_check.specs.Good.{GoodReport}
use Rattle.trace_laws.specs.declared.event.Call.{Call}
use Rattle.trace_laws.specs.Orders.{IsOrder, IsLinearizable}
use Rattle.trace_judge.specs.Stops.{IsCrowded}
use Rattle.trace_text.specs.Findings.{AnswersPastBound, IsBadBy}
use Rattle.trace_text.specs.declared.linearize.Unfound.{Unfound}
use Rattle.trace_text.specs.Traced.{TraceSpec, trace_of, opening_of}
use Rattle.trace_answer.specs.declared.unfit.Unfit.{Unfit}
use Rattle.trace_answer.specs.declared.unfit.Unfit.TheVariants.{Memory, Words, Processors, Indexes, Operations, Events}
use Rattle.trace_answer.specs.Fitting.{IsUnfit}
use Rattle.trace_answer.specs.Report.{IsReportOfOrder}
use Rattle.program_fault.specs.declared.fault.ProgramFault.{ProgramFault}
use Rattle.program_fault.specs.declared.fault.ProgramFault.TheVariants as program
use Rattle.program_fault.specs.Done.{Output, TookAll}
use Rattle.command_verdicts.specs.declared.command.Judged.{Judged}
use Rattle.command_verdicts.specs.declared.command.Judged.TheVariants.{Linearizable, NotLinearizable, NotLinearizableBy, TooMany, TooOpen}
use Rattle.command_verdicts.specs.Reporting.{IsReportText, PassesLimit, PrintsReport, PutsTraceReport, unreported}

report_is : (t : TraceSpec) (order : List Call) (lines : List ReportLine) → IsOrder (opening_of t) t.events order → IsReportOfOrder t order lines
    → GoodReport (text_of lines) → IsReportText t (text_of lines)
report_is t order lines explains reports good =
    record { order = order; explains = explains; lines = lines; reports = reports; is = refl; good = good }

-- all of it was taken
pub printed : (bound : ℕ) (t : TraceSpec) (order : List Call) (lines : List ReportLine) (old new : Output) → IsOrder (opening_of t) t.events order
    → IsReportOfOrder t order lines → GoodReport (text_of lines) → Appends old.taken new.taken (text_of lines) → new.failures ≡ old.failures
    → PutsTraceReport t bound old new (Ok Linearizable)
printed bound t order lines old new explains reports good bytes quiet =
    (text_of lines, report_is t order lines explains reports good, record { bytes = bytes; quiet = quiet })

-- or a beginning
pub cut : (bound : ℕ) (t : TraceSpec) (order : List Call) (lines : List ReportLine) (old new : Output) → IsOrder (opening_of t) t.events order
    → IsReportOfOrder t order lines → GoodReport (text_of lines) → AppendsFront old.taken new.taken (text_of lines) → Rose old.failures new.failures
    → PutsTraceReport t bound old new (Err program.Output)
cut bound t order lines old new explains reports good bytes failed =
    (Linearizable, (text_of lines, report_is t order lines explains reports good, record { bytes = bytes; failed = failed }))

took_nothing : (o : Output) → TookAll o o []
took_nothing o = record { bytes = Appends-nil o.taken; quiet = refl }

passes : (t : TraceSpec) (order : List Call) (why : Unfit) → IsOrder (opening_of t) t.events order → IsUnfit t order why → PassesLimit t why []
passes t order why explains unfit = record { order = order; explains = explains; unfit = unfit; silent = refl }

-- or there is none
pub none : (bound : ℕ) (t : TraceSpec) (order : List Call) (why : Unfit) (o : Output) → IsOrder (opening_of t) t.events order → IsUnfit t order why
    → PutsTraceReport t bound o o (unreported why)
none bound t order Memory o explains unfit = (refl, refl)
none bound t order Words o explains unfit = ([], passes t order Words explains unfit, took_nothing o)
none bound t order Processors o explains unfit = ([], passes t order Processors explains unfit, took_nothing o)
none bound t order Indexes o explains unfit = ([], passes t order Indexes explains unfit, took_nothing o)
none bound t order Operations o explains unfit = ([], passes t order Operations explains unfit, took_nothing o)
none bound t order Events o explains unfit = ([], passes t order Events explains unfit, took_nothing o)

-- so it is of the trace of a text
pub of_text : (lines : List (List ℕ)) (bound : ℕ) (t : TraceSpec) (old new : Output) (r : Result Judged ProgramFault) → trace_of lines ≡ Ok t → PutsTraceReport t bound old new r
    → PrintsReport lines bound old new r
of_text lines bound t old new (Ok judged) read h = (h.0, record { trace = t; read = read; reported = h.1 }, h.2)
of_text lines bound t old new (Err program.Output) read h = (h.0, (h.1.0, record { trace = t; read = read; reported = h.1.1 }, h.1.2))
of_text lines bound t old new (Err (program.Fault which)) read h = h
of_text lines bound t old new (Err (program.Line found)) read h = absurd h.0
of_text lines bound t old new (Err program.Tile) read h = absurd h.0
of_text lines bound t old new (Err (program.Bad line)) read h = absurd h.0

-- there is no order
pub refused : (lines : List (List ℕ)) (bound : ℕ) (t : TraceSpec) (o : Output) (line : ℕ) → trace_of lines ≡ Ok t
    → ((k : ℕ) × (slice_get t.lines k ≡ Some line) × IsLinearizable (opening_of t) (take k t.events)
    × (IsLinearizable (opening_of t) (take (k + 1) t.events) → ⊥))
    → PrintsReport lines bound o o (Ok (NotLinearizable line))
refused lines bound t o line read h = (
  [],
  record {
    trace = t;
    read = read;
    reported = (h.0, record { there = h.1; silent = refl }, record { before = h.2; none = h.3 });
  },
  took_nothing o,
)

-- there is none, and a beginning isn't decided
pub refused_by : (lines : List (List ℕ)) (bound : ℕ) (t : TraceSpec) (o : Output) (line : ℕ) (why : Unfound) → trace_of lines ≡ Ok t
    → ((k : ℕ) × (slice_get t.lines k ≡ Some line) × IsBadBy t bound k why)
    → PrintsReport lines bound o o (Ok (NotLinearizableBy line why))
refused_by lines bound t o line why read h =
    ([], record { trace = t; read = read; reported = (h.0, record { there = h.1; silent = refl }, h.2) }, took_nothing o)

-- the trace isn't decided
pub too_many : (lines : List (List ℕ)) (bound : ℕ) (t : TraceSpec) (o : Output) (line : ℕ) → trace_of lines ≡ Ok t
    → ((k : ℕ) × (slice_get t.lines k ≡ Some line) × AnswersPastBound t bound k)
    → PrintsReport lines bound o o (Ok (TooMany line))
too_many lines bound t o line read h =
    ([], record { trace = t; read = read; reported = (h.0, record { there = h.1; silent = refl }, h.2) }, took_nothing o)

pub too_open : (lines : List (List ℕ)) (bound : ℕ) (t : TraceSpec) (o : Output) (line : ℕ) → trace_of lines ≡ Ok t
    → ((k : ℕ) × (slice_get t.lines k ≡ Some line) × IsCrowded t.events k)
    → PrintsReport lines bound o o (Ok (TooOpen line))
too_open lines bound t o line read h =
    ([], record { trace = t; read = read; reported = (h.0, record { there = h.1; silent = refl }, h.2) }, took_nothing o)
