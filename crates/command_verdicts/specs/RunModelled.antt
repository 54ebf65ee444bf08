-- What the command prints that judges a report with the texts of its run (this project's own format).
use Rattle.std.specs.Prelude.{◌≡◌, ◌⊎◌, List, [], ℕ, Bool, true, Result, Ok, Err}
use Rattle.torus.specs.declared.fault.Fault.TheVariants as fault
use Rattle.lexer.specs.declared.refusal.Refusal.{Refusal}
use Rattle.lexer.specs.declared.fault.LineFault.{LineFault}
use Rattle.script_lines.specs.Machine.{MachineSpec}
use Rattle.script.specs.Machine.{machine_of}
use Rattle.lexer.specs.Faults.{fault_of_refusal}
use Rattle.script_lines.specs.Lines.{ScriptsSpec}
use Rattle.script.specs.Scripts.{scripts_of}
use Rattle.report_check.specs.Good.{FirstBad}
use Rattle.model_text.specs.declared.reason.LogReason.{LogReason}
use Rattle.model_text.specs.Reasons.{log_fault_of}
use Rattle.model_answer.specs.declared.answer.Answer.{Answer}
use Rattle.model_answer.specs.declared.answer.NoAnswer.TheVariants.{Refused, Wrong as WrongAnswer, Memory as NoMemory}
use Rattle.report_model.specs.declared.answer.NoReportAnswer.TheVariants.{Bad, NoOrder, Unjudged, Memory}
use Rattle.report_model.specs.declared.answer.NoTextsAnswer.{NoTextsAnswer}
use Rattle.report_model.specs.declared.answer.NoTextsAnswer.TheVariants as texts
use Rattle.report_model.specs.Answers.{IsAnswerToReportOf, IsNoAnswerToReportOf}
use Rattle.program_fault.specs.declared.fault.ProgramFault.{ProgramFault}
use Rattle.program_fault.specs.declared.fault.ProgramFault.TheVariants as program
use Rattle.program_fault.specs.Done.{Does, Output}
use Rattle.program_fault.specs.Outcome.{of_line}
use Rattle.command_verdicts.specs.declared.model.AskedModels.{AskedModels}
use Rattle.command_verdicts.specs.declared.model.Modelled.{Modelled}
use Rattle.command_verdicts.specs.declared.model.Modelled.TheVariants.{Obeys, Wrong, OtherShape, OtherOperation}
use Rattle.command_verdicts.specs.Modelled.{options_of}

-- what the command answers where the models give no answer
abbrev pub unanswered : NoTextsAnswer → Result Modelled ProgramFault
unanswered (texts.Report (Bad line)) = Err (program.Bad line)
unanswered (texts.Report (NoOrder line)) =
    Err (program.Line (record { fault = fault.Setting; line = line }))
unanswered (texts.Report (Unjudged (Refused refusal))) =
    Err (of_line (fault_of_refusal log_fault_of refusal))
unanswered (texts.Report (Unjudged (WrongAnswer wrong))) = Ok (Wrong wrong)
unanswered (texts.Report (Unjudged NoMemory)) = Err (program.Fault fault.Memory)
unanswered (texts.Report Memory) = Err (program.Fault fault.Memory)
unanswered (texts.OtherShape line) = Ok (OtherShape line)
unanswered (texts.OtherOperation line p passed) = Ok (OtherOperation line p passed)

-- the models give no answer, for a reason to which the command answers this
pub record IsUnansweredIssue (m : MachineSpec) (s : ScriptsSpec) (report : List ℕ) (modelled : Modelled)
    : Type 0 where
  pub why : NoTextsAnswer
  pub none : IsNoAnswerToReportOf m s report why
  pub is : unanswered why ≡ Ok modelled

-- what is printed of a report with the scripts that were run: the answer of the models, or nothing
-- where a reply isn't due, or the report isn't one of these scripts
abbrev pub IsRunModelled : (A : Type 0) → MachineSpec → ScriptsSpec → List ℕ → AskedModels → Modelled
    → List ℕ → Type 0
IsRunModelled A m s report asked (Obeys obeys weak) text = (answer : Answer A)
    × IsAnswerToReportOf m s report (options_of asked true) answer
    × (obeys ≡ answer.obeys) × (weak ≡ answer.weak) × (text ≡ answer.text.items)
IsRunModelled A m s report asked modelled text = IsUnansweredIssue m s report modelled × (text ≡ [])

-- a good report has entries and no order lines, and this is its last line; or its log is refused
pub data RefusesRun (m : MachineSpec) (s : ScriptsSpec) (report : List ℕ) (found : LineFault)
    : Type 0 where
  LacksOrder : IsNoAnswerToReportOf m s report (texts.Report (NoOrder found.line))
      → found.fault ≡ fault.Setting → RefusesRun m s report found
  RefusesEntry : (refusal : Refusal LogReason)
      → IsNoAnswerToReportOf m s report (texts.Report (Unjudged (Refused refusal)))
      → found ≡ fault_of_refusal log_fault_of refusal → RefusesRun m s report found

-- the report is bad at this line, or its operations are no log
abbrev pub IsRunModelFault : MachineSpec → ScriptsSpec → List ℕ → ProgramFault → Type 0
IsRunModelFault m s report (program.Bad line) = FirstBad report line
IsRunModelFault m s report (program.Line found) = RefusesRun m s report found
IsRunModelFault m s report _ = ⊥

-- the models that a report with its scripts obeys were printed
abbrev pub PrintsModelsOfRun : (A : Type 0) → MachineSpec → ScriptsSpec → List ℕ → AskedModels → Output
    → Output → Result Modelled ProgramFault → Type 0
PrintsModelsOfRun A m s report asked =
    Does (IsRunModelled A m s report asked) (IsRunModelFault m s report)

-- the machine and the scripts are those of texts of these lines
pub record IsTextsModelled (A : Type 0) (machine scripts : List (List ℕ)) (report : List ℕ)
    (asked : AskedModels) (modelled : Modelled) (text : List ℕ) : Type 0 where
  pub m : MachineSpec
  pub s : ScriptsSpec
  pub is_machine : machine_of machine ≡ Ok m
  pub are_scripts : scripts_of m scripts ≡ Ok s
  pub modelled_so : IsRunModelled A m s report asked modelled text

-- the first fault of the machine's text, or else of the scripts', or else of the report
abbrev pub IsTextsModelFault : List (List ℕ) → List (List ℕ) → List ℕ → ProgramFault → Type 0
IsTextsModelFault machine scripts report (program.Bad line) = FirstBad report line
IsTextsModelFault machine scripts report (program.Line found) = (machine_of machine ≡ Err found)
    ⊎ ((m : MachineSpec) × (machine_of machine ≡ Ok m) × ((scripts_of m scripts ≡ Err found)
    ⊎ ((s : ScriptsSpec) × (scripts_of m scripts ≡ Ok s) × RefusesRun m s report found)))
IsTextsModelFault machine scripts report _ = ⊥

-- the models that a report with the texts of its run obeys were printed
abbrev pub PrintsModelsOfTexts : (A : Type 0) → List (List ℕ) → List (List ℕ) → List ℕ
    → AskedModels → Output → Output → Result Modelled ProgramFault → Type 0
PrintsModelsOfTexts A machine scripts report asked =
    Does (IsTextsModelled A machine scripts report asked)
    (IsTextsModelFault machine scripts report)
