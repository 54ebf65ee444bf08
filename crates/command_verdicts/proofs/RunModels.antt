-- What is printed of a report with the texts of its run.
use Rattle.std.proofs.Common.{◌≡◌, ℕ, List, [], refl, inl, inr}
use Rattle.std.specs.Prelude.{Result, Ok, Err}
use Rattle.torus.specs.declared.fault.Fault.TheVariants as fault
use Rattle.script_lines.specs.Machine.{MachineSpec}
use Rattle.script.specs.Machine.{machine_of}
use Rattle.lexer.specs.Faults.{fault_of_refusal}
use Rattle.script_lines.specs.Lines.{ScriptsSpec}
use Rattle.script.specs.Scripts.{scripts_of}
use Rattle.model_text.specs.Reasons.{log_fault_of}
use Rattle.model_answer.specs.declared.answer.NoAnswer.TheVariants.{Refused, Wrong as WrongAnswer, Memory as NoMemory}
use Rattle.report_model.specs.declared.answer.NoReportAnswer.TheVariants.{Bad, NoOrder, Unjudged, Memory}
use Rattle.report_model.specs.declared.answer.NoTextsAnswer.{NoTextsAnswer}
use Rattle.report_model.specs.declared.answer.NoTextsAnswer.TheVariants as texts
use Rattle.report_model.specs.Answers.{IsNoAnswerToReportOf}
use Rattle.program_fault.specs.declared.fault.ProgramFault.{ProgramFault}
use Rattle.program_fault.specs.declared.fault.ProgramFault.TheVariants as program
use Rattle.program_fault.specs.Done.{Output, TookAll}
use Rattle.program_fault.specs.Outcome.{of_line}
use Rattle.command_verdicts.specs.declared.model.AskedModels.{AskedModels}
use Rattle.command_verdicts.specs.declared.model.Modelled.{Modelled}
use Rattle.command_verdicts.specs.RunModelled.{IsRunModelFault, IsRunModelled, LacksOrder, PrintsModelsOfRun, PrintsModelsOfTexts, RefusesEntry, unanswered}
use Rattle.command_verdicts.proofs.Refusals.{none_taken, refused_by}

nothing : (o : Output) → TookAll o o []
nothing o = record { bytes = none_taken o.taken; quiet = refl }

-- there is no answer
pub none_printed : (A : Type 0) (m : MachineSpec) (s : ScriptsSpec) (report : List ℕ) (asked : AskedModels) (o : Output) (why : NoTextsAnswer)
    → IsNoAnswerToReportOf m s report why → PrintsModelsOfRun A m s report asked o o (unanswered why)
none_printed A m s report asked o (texts.Report (Bad line)) none = (none, refl)
none_printed A m s report asked o (texts.Report (NoOrder line)) none = (LacksOrder none refl, refl)
none_printed A m s report asked o (texts.Report (Unjudged (Refused refusal))) none =
    refused_by (IsRunModelled A m s report asked) (IsRunModelFault m s report) o (fault_of_refusal log_fault_of refusal)
    (of_line (fault_of_refusal log_fault_of refusal)) refl (RefusesEntry refusal none refl)
none_printed A m s report asked o (texts.Report (Unjudged (WrongAnswer wrong))) none =
    ([], (record { why = texts.Report (Unjudged (WrongAnswer wrong)); none = none; is = refl }, refl), nothing o)
none_printed A m s report asked o (texts.Report (Unjudged NoMemory)) none = (refl, refl)
none_printed A m s report asked o (texts.Report Memory) none = (refl, refl)
none_printed A m s report asked o (texts.OtherShape line) none =
    ([], (record { why = texts.OtherShape line; none = none; is = refl }, refl), nothing o)
none_printed A m s report asked o (texts.OtherOperation line p passed) none =
    ([], (record { why = texts.OtherOperation line p passed; none = none; is = refl }, refl), nothing o)

-- so it is of the machine and the scripts of texts
pub of_texts : (A : Type 0) (machine scripts : List (List ℕ)) (m : MachineSpec) (s : ScriptsSpec) (report : List ℕ) (asked : AskedModels) (old new : Output)
    (r : Result Modelled ProgramFault) → machine_of machine ≡ Ok m → scripts_of m scripts ≡ Ok s
    → PrintsModelsOfRun A m s report asked old new r → PrintsModelsOfTexts A machine scripts report asked old new r
of_texts A machine scripts m s report asked old new (Ok modelled) first second h =
    (h.0, record { m = m; s = s; is_machine = first; are_scripts = second; modelled_so = h.1 }, h.2)
of_texts A machine scripts m s report asked old new (Err program.Output) first second h =
    (h.0, (h.1.0, record { m = m; s = s; is_machine = first; are_scripts = second; modelled_so = h.1.1 }, h.1.2))
of_texts A machine scripts m s report asked old new (Err (program.Fault which)) first second h = h
of_texts A machine scripts m s report asked old new (Err (program.Line found)) first second h =
    (inr (m, first, inr (s, second, h.0)), h.1)
of_texts A machine scripts m s report asked old new (Err program.Tile) first second h = absurd h.0
of_texts A machine scripts m s report asked old new (Err (program.Bad line)) first second h = h
