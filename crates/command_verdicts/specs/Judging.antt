-- What the trace of a text is judged to be, and what is printed then.
use Rattle.std.specs.Prelude.{◌≡◌, ◌+◌, ℕ, List, [], Some, slice_get, take, Result, Ok, Err}
use Rattle.trace_laws.specs.declared.event.Call.{Call}
use Rattle.trace_laws.specs.Orders.{IsOrder, IsLinearizable}
use Rattle.trace_judge.specs.Stops.{IsCrowded}
use Rattle.trace_text.specs.Findings.{AnswersPastBound, IsBadBy}
use Rattle.trace_text.specs.Traced.{TraceSpec, trace_of, opening_of}
use Rattle.trace_answer.specs.Texts.{order_text}
use Rattle.program_fault.specs.declared.fault.ProgramFault.{ProgramFault}
use Rattle.program_fault.specs.declared.fault.ProgramFault.TheVariants as program
use Rattle.program_fault.specs.Done.{Output, Does}
use Rattle.command_verdicts.specs.declared.command.Judged.{Judged}
use Rattle.command_verdicts.specs.declared.command.Judged.TheVariants.{Linearizable}
use Rattle.command_verdicts.specs.declared.command.Judged.TheVariants.{NotLinearizable, NotLinearizableBy, TooMany}
use Rattle.command_verdicts.specs.declared.command.Judged.TheVariants.{TooOpen}
use Rattle.command_verdicts.specs.declared.command.Judged.TheVariants.{NoReport}

-- the text of an order that explains a trace (Herlihy and Wing, TOPLAS 12(3), 1990: a
-- linearization)
pub record IsOrderText (t : TraceSpec) (text : List ℕ) : Type 0 where
  pub order : List Call
  pub explains : IsOrder (opening_of t) t.events order
  pub is : text ≡ order_text t.issued order

-- event k of a trace stands at this line, and nothing is printed of it
pub record StandsAtLine (t : TraceSpec) (line k : ℕ) (text : List ℕ) : Type 0 where
  pub there : slice_get t.lines k ≡ Some line
  pub silent : text ≡ []

-- what comes before an event is linearizable, and with it is not
pub record IsFirstBad (t : TraceSpec) (k : ℕ) : Type 0 where
  pub before : IsLinearizable (opening_of t) (take k t.events)
  pub none : IsLinearizable (opening_of t) (take (k + 1) t.events) → ⊥

-- a verdict on a trace is right, with so many configurations of a word allowed, and this is printed
-- then
abbrev pub IsJudged : TraceSpec → ℕ → Judged → List ℕ → Type 0
IsJudged t bound Linearizable text = IsOrderText t text
IsJudged t bound (NotLinearizable line) text =
    (k : ℕ) × StandsAtLine t line k text × IsFirstBad t k
IsJudged t bound (NotLinearizableBy line why) text =
    (k : ℕ) × StandsAtLine t line k text × IsBadBy t bound k why
IsJudged t bound (TooMany line) text =
    (k : ℕ) × StandsAtLine t line k text × AnswersPastBound t bound k
IsJudged t bound (TooOpen line) text = (k : ℕ) × StandsAtLine t line k text × IsCrowded t.events k
IsJudged t bound (NoReport why) text = ⊥

-- the trace that the lines of a text give is judged
pub record IsJudgement (lines : List (List ℕ)) (bound : ℕ) (verdict : Judged) (text : List ℕ) : Type
    0 where
  pub trace : TraceSpec
  pub read : trace_of lines ≡ Ok trace
  pub judged : IsJudged trace bound verdict text

-- the text has this as its first fault
abbrev pub IsTraceFault : List (List ℕ) → ProgramFault → Type 0
IsTraceFault lines (program.Line found) = trace_of lines ≡ Err found
IsTraceFault lines _ = ⊥

-- the trace was judged, with so many configurations of a word allowed, and its order printed, if
-- it has one
abbrev pub PrintsOrder : List (List ℕ) → ℕ → Output → Output → Result Judged ProgramFault → Type 0
PrintsOrder lines bound = Does (IsJudgement lines bound) (IsTraceFault lines)
