-- What the command that judges a log by memory models prints (this project's own format).
use Rattle.std.specs.Prelude.{◌≡◌, List, [], ℕ, Bool, false, Result, Err, codes, nat_eq}
use Rattle.std.specs.List.{starts_with}
use Rattle.torus.specs.declared.fault.Fault.TheVariants as fault
use Rattle.report_check.specs.Good.{FirstBad}
use Rattle.report_model.specs.declared.answer.NoReportAnswer.TheVariants.{NoOrder, Unjudged}
use Rattle.report_model.specs.Answers.{HasNoRunAnswer, IsAnswerToReport}
use Rattle.lexer.specs.declared.fault.LineFault.{LineFault}
use Rattle.model_answer.specs.declared.answer.NoAnswer.TheVariants.{Refused, Wrong as WrongAnswer}
use Rattle.lexer.specs.declared.refusal.Refusal.{Refusal}
use Rattle.model_text.specs.declared.reason.LogReason.{LogReason}
use Rattle.model_text.specs.Lines.{log_of}
use Rattle.model_text.specs.Reasons.{log_fault_of}
use Rattle.model_answer.specs.declared.answer.Answer.{Answer}
use Rattle.model_answer.specs.declared.answer.Options.{Options}
use Rattle.model_answer.specs.Answer.{IsAnswerTo, IsWrongIn}
use Rattle.lexer.specs.Faults.{by_fault, fault_of_refusal}
use Rattle.program_fault.specs.declared.fault.ProgramFault.{ProgramFault}
use Rattle.program_fault.specs.declared.fault.ProgramFault.TheVariants as program
use Rattle.program_fault.specs.Done.{Does, Output}
use Rattle.command_verdicts.specs.declared.model.AskedModels.{AskedModels}
use Rattle.command_verdicts.specs.declared.model.Modelled.{Modelled}
use Rattle.command_verdicts.specs.declared.model.Modelled.TheVariants.{Obeys, WithoutFences, Wrong}
use Rattle.command_verdicts.specs.declared.model.Modelled.TheVariants.{OtherShape, OtherOperation}

-- what is asked of a log that says where its fences stand, or doesn't
abbrev pub options_of : AskedModels → Bool → Options
options_of asked fences =
    record { order = asked.order; fences = fences; rvwmo = asked.rvwmo }

-- what is printed of what a log is judged to be: the answer of these models, or, where a reply isn't
-- due, nothing
abbrev pub IsModelled : (A : Type 0) → List (List ℕ) → Options → Modelled → List ℕ → Type 0
IsModelled A lines options (Obeys obeys weak) text =
    (answer : Answer A) × IsAnswerTo lines options answer × (obeys ≡ answer.obeys)
    × (weak ≡ answer.weak) × (text ≡ answer.text.items)
IsModelled A lines options (WithoutFences obeys weak) text = ⊥
IsModelled A lines options (OtherShape line) text = ⊥
IsModelled A lines options (OtherOperation line p passed) text = ⊥
IsModelled A lines options (Wrong wrong) text = IsWrongIn lines wrong × (text ≡ [])

-- the log text has this as its first fault
abbrev pub IsLogFault : List (List ℕ) → ProgramFault → Type 0
IsLogFault lines (program.Line found) = by_fault log_fault_of (log_of lines) ≡ Err found
IsLogFault lines _ = ⊥

-- the models that a log obeys were printed
abbrev pub PrintsModels : (A : Type 0) → List (List ℕ) → Options → Output → Output
    → Result Modelled ProgramFault → Type 0
PrintsModels A lines options = Does (IsModelled A lines options) (IsLogFault lines)

-- whether a text begins as reports do
abbrev pub is_report_text : List ℕ → Bool
is_report_text text = starts_with nat_eq text (codes "torusmem ")

-- what is printed of a report: the answer on the log that its operations are, without fences; or,
-- where a reply isn't due, nothing
abbrev pub IsReportModelled : (A : Type 0) → List ℕ → AskedModels → Modelled → List ℕ → Type 0
IsReportModelled A report asked (Obeys obeys weak) text = ⊥
IsReportModelled A report asked (WithoutFences obeys weak) text =
    (answer : Answer A) × IsAnswerToReport report (options_of asked false) answer
    × (obeys ≡ answer.obeys) × (weak ≡ answer.weak) × (text ≡ answer.text.items)
IsReportModelled A report asked (OtherShape line) text = ⊥
IsReportModelled A report asked (OtherOperation line p passed) text = ⊥
IsReportModelled A report asked (Wrong wrong) text =
    HasNoRunAnswer report (Unjudged (WrongAnswer wrong)) × (text ≡ [])

-- a good report has entries and no order lines, and this is its last line; or its log is refused
pub data RefusesReport (report : List ℕ) (found : LineFault) : Type 0 where
  LacksOrder : HasNoRunAnswer report (NoOrder found.line) → found.fault ≡ fault.Setting
      → RefusesReport report found
  RefusesEntry : (refusal : Refusal LogReason) → HasNoRunAnswer report (Unjudged (Refused refusal))
      → found ≡ fault_of_refusal log_fault_of refusal → RefusesReport report found

-- the report is bad at this line, or its operations are no log
abbrev pub IsReportRefusal : List ℕ → ProgramFault → Type 0
IsReportRefusal report (program.Bad line) = FirstBad report line
IsReportRefusal report (program.Line found) = RefusesReport report found
IsReportRefusal report _ = ⊥

-- the models that a report obeys were printed
abbrev pub PrintsModelsOfReport : (A : Type 0) → List ℕ → AskedModels → Output → Output
    → Result Modelled ProgramFault → Type 0
PrintsModelsOfReport A report asked = Does (IsReportModelled A report asked) (IsReportRefusal report)
