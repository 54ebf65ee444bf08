-- The answer on a good report with the fences of its scripts, part by part.
use Rattle.std.proofs.Common.{◌≡◌, ◌⊎◌, ◌∙◌, ℕ, List, false, sym, ap, subst, inl, inr}
use Rattle.torus.specs.Shape.{tiles_of}
use Rattle.script_lines.specs.Machine.{MachineSpec}
use Rattle.script_lines.specs.Lines.{ScriptsSpec}
use Rattle.report_lines.specs.Line.{text_of}
use Rattle.report_lines.specs.declared.line.ReportLine.{ReportLine}
use Rattle.report_check.specs.Good.{AreGood}
use Rattle.model_answer.specs.declared.answer.Answer.{Answer}
use Rattle.model_answer.specs.declared.answer.NoAnswer.{NoAnswer}
use Rattle.model_answer.specs.declared.answer.Options.{Options}
use Rattle.report_model.specs.declared.entry.LineEntry.{LineEntry}
use Rattle.report_model.specs.LogAnswers.{IsAnswerToLines, IsNoAnswerToLines}
use Rattle.report_model.specs.declared.answer.NoReportAnswer.TheVariants.{Bad, NoOrder, Unjudged, Memory}
use Rattle.report_model.specs.declared.answer.NoTextsAnswer.{NoTextsAnswer}
use Rattle.report_model.specs.declared.answer.NoTextsAnswer.TheVariants.{Report, OtherShape, OtherOperation}
use Rattle.report_model.specs.declared.row.ProgramStep.{ProgramStep}
use Rattle.report_model.specs.declared.row.ReportRow.{ReportRow}
use Rattle.report_model.specs.Answers.{IsAnswerWithFences, IsGoodReportWith, IsNoAnswerToReportOf, IsNoAnswerWithFences, IsRunOf, IsUnjudgedWithFences}
use Rattle.report_model.specs.Answers.{lacks_order, programs_run}
use Rattle.report_model.specs.Entries.{entries_with}
use Rattle.report_model.specs.Programs.{AreAllScripted, IsUnscriptedAmong, programs_of}
use Rattle.report_model.specs.Rows.{made_of, rows_of}
use Rattle.report_model.specs.Run.{ModelledRun, report_run_of}
use Rattle.report_model.proofs.Answered.{answer_to_same, none_to_same}

module _ (machine : MachineSpec) (scripts : ScriptsSpec) (r : ModelledRun) (made : List ReportRow) (tiles : ℕ) (ordered : lacks_order r ≡ false)
    (run : IsRunOf machine scripts r) (made_are : made ≡ made_of (rows_of r)) (tiles_are : tiles ≡ tiles_of machine.shape) where
  scripted_run : AreAllScripted scripts.lists made tiles → AreAllScripted scripts.lists (made_of (rows_of r)) (tiles_of machine.shape)
  scripted_run is =
      subst (λ (n : ℕ). AreAllScripted scripts.lists (made_of (rows_of r)) n) tiles_are
      (subst (λ (m : List ReportRow). AreAllScripted scripts.lists m tiles) made_are is)

  unscripted_run : (why : NoTextsAnswer) → IsUnscriptedAmong scripts.lists made tiles why
      → IsUnscriptedAmong scripts.lists (made_of (rows_of r)) (tiles_of machine.shape) why
  unscripted_run why is =
      subst (λ (n : ℕ). IsUnscriptedAmong scripts.lists (made_of (rows_of r)) n why) tiles_are
      (subst (λ (m : List ReportRow). IsUnscriptedAmong scripts.lists m tiles why) made_are is)

  steps_run : (steps : List ProgramStep) → steps ≡ programs_of scripts.lists made tiles → steps ≡ programs_run machine scripts r
  steps_run steps is =
      is ∙ ap (λ (m : List ReportRow). programs_of scripts.lists m tiles) made_are ∙ ap (programs_of scripts.lists (made_of (rows_of r))) tiles_are

  pub answered_with : {A : Type 0} (steps : List ProgramStep) (told : ℕ) (given : List LineEntry) (options : Options) (a : Answer A)
      → AreAllScripted scripts.lists made tiles → steps ≡ programs_of scripts.lists made tiles → told ≡ r.words → given ≡ entries_with r steps
      → IsAnswerToLines told given options a → IsAnswerWithFences machine scripts r options a
  answered_with steps told given options a scripted steps_are words_are entries_are is = record {
    ordered = ordered;
    run = run;
    scripted = scripted_run scripted;
    is = answer_to_same r.words told (entries_with r (programs_run machine scripts r)) given options a words_are
        (entries_are ∙ ap (entries_with r) (steps_run steps steps_are)) is;
  }

  pub unjudged_with : (steps : List ProgramStep) (told : ℕ) (given : List LineEntry) (why : NoAnswer)
      → AreAllScripted scripts.lists made tiles → steps ≡ programs_of scripts.lists made tiles → told ≡ r.words → given ≡ entries_with r steps
      → IsNoAnswerToLines told given why → IsUnjudgedWithFences machine scripts r why
  unjudged_with steps told given why scripted steps_are words_are entries_are is = record {
    ordered = ordered;
    run = run;
    scripted = scripted_run scripted;
    is = none_to_same r.words told (entries_with r (programs_run machine scripts r)) given why words_are
        (entries_are ∙ ap (entries_with r) (steps_run steps steps_are)) is;
  }

  unscripted_with : (why : NoTextsAnswer) → IsUnscriptedAmong scripts.lists made tiles why → IsNoAnswerWithFences machine scripts r why
  unscripted_with why is = subst (λ (w : NoTextsAnswer). IsNoAnswerWithFences machine scripts r w) (sym is.other.is) (
    ordered,
    run,
    subst (λ (w : NoTextsAnswer). IsUnscriptedAmong scripts.lists (made_of (rows_of r)) (tiles_of machine.shape) w) is.other.is
        (unscripted_run why is),
  )

  pub unanswered_with : (why : NoTextsAnswer) → (why ≡ Report Memory) ⊎ IsUnscriptedAmong scripts.lists made tiles why
      → IsNoAnswerWithFences machine scripts r why
  unanswered_with why is = elim is [
    | inl memory ↦ subst (λ (w : NoTextsAnswer). IsNoAnswerWithFences machine scripts r w) (sym memory) tt
    | inr other ↦ unscripted_with why other
  ]

-- what is so of what the lines of a good report say
pub on_good_report : (IsSo : ModelledRun → Type 0) (text : List ℕ) (lines : List ReportLine) (r : ModelledRun) → text ≡ text_of lines → AreGood lines
    → r ≡ report_run_of lines → IsSo r → IsGoodReportWith text IsSo
on_good_report IsSo text lines r printed good same is = record {
  lines = lines;
  printed = printed;
  good = good;
  is = subst IsSo same is;
}

pub none_with : (machine : MachineSpec) (scripts : ScriptsSpec) (text : List ℕ) (lines : List ReportLine) (r : ModelledRun) (why : NoTextsAnswer)
    → text ≡ text_of lines → AreGood lines → r ≡ report_run_of lines → IsNoAnswerWithFences machine scripts r why
    → IsNoAnswerToReportOf machine scripts text why
none_with machine scripts text lines r (Report (Bad line)) printed good same is = absurd is
none_with machine scripts text lines r (Report (NoOrder line)) printed good same is =
    on_good_report (λ s. IsNoAnswerWithFences machine scripts s (Report (NoOrder line))) text lines r printed good same is
none_with machine scripts text lines r (Report (Unjudged why)) printed good same is =
    on_good_report (λ s. IsNoAnswerWithFences machine scripts s (Report (Unjudged why))) text lines r printed good same is
none_with machine scripts text lines r (Report Memory) printed good same is = tt
none_with machine scripts text lines r (OtherShape line) printed good same is =
    on_good_report (λ s. IsNoAnswerWithFences machine scripts s (OtherShape line)) text lines r printed good same is
none_with machine scripts text lines r (OtherOperation line p passed) printed good same is =
    on_good_report (λ s. IsNoAnswerWithFences machine scripts s (OtherOperation line p passed)) text lines r printed good same is
