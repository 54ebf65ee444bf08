-- The answer to the question which memory models a report obeys.
use Rattle.std.specs.Prelude.{◌≡◌, ◌==◌, ◌&&◌, ℕ, Bool, true, false, not, List, Some, length}
use Rattle.torus.specs.Shape.{tiles_of}
use Rattle.script_lines.specs.Machine.{MachineSpec}
use Rattle.script_lines.specs.Lines.{Fit, ScriptsSpec}
use Rattle.report_lines.specs.Contents.{radices_of}
use Rattle.report_lines.specs.Line.{text_of}
use Rattle.report_lines.specs.declared.line.ReportLine.{ReportLine}
use Rattle.report_check.specs.Good.{AreGood, FirstBad}
use Rattle.model_answer.specs.declared.answer.Answer.{Answer}
use Rattle.model_answer.specs.declared.answer.NoAnswer.{NoAnswer}
use Rattle.model_answer.specs.declared.answer.Options.{Options}
use Rattle.report_model.specs.LogAnswers.{IsAnswerToLines, IsNoAnswerToLines}
use Rattle.report_model.specs.declared.answer.NoReportAnswer.{NoReportAnswer}
use Rattle.report_model.specs.declared.answer.NoReportAnswer.TheVariants.{Bad, NoOrder, Unjudged}
use Rattle.report_model.specs.declared.answer.NoReportAnswer.TheVariants.{Memory}
use Rattle.report_model.specs.declared.answer.NoTextsAnswer.{NoTextsAnswer}
use Rattle.report_model.specs.declared.answer.NoTextsAnswer.TheVariants as texts
use Rattle.report_model.specs.declared.row.ProgramStep.{ProgramStep}
use Rattle.report_model.specs.Entries.{entries_of, entries_with}
use Rattle.report_model.specs.Programs.{AreAllScripted, IsUnscriptedAmong, programs_of}
use Rattle.report_model.specs.Rows.{made_of, rows_of}
use Rattle.report_model.specs.Run.{ModelledRun, report_run_of}

-- whether there are entries, but no order lines
abbrev pub lacks_order : ModelledRun → Bool
lacks_order r = not (length r.entries == 0) && (length r.orders == 0)

-- the answer on what a report says of its run: that on the log that its operations are
pub record IsAnswerToRun {A : Type 0} (r : ModelledRun) (options : Options) (a : Answer A) : Type 0
  where
    pub ordered : lacks_order r ≡ false
    pub is : IsAnswerToLines r.words (entries_of r) options a

-- why there is none: the order lines are missing behind the last line, or there is none on the log, or
-- memory was refused
abbrev pub IsNoAnswerToRun : ModelledRun → NoReportAnswer → Type 0
IsNoAnswerToRun r (Bad line) = ⊥
IsNoAnswerToRun r (NoOrder line) = (lacks_order r ≡ true) × (line ≡ r.count)
IsNoAnswerToRun r (Unjudged why) = IsNoAnswerToLines r.words (entries_of r) why
IsNoAnswerToRun r Memory = Unit {0}

-- a text is a good report, and this is so of what its lines say
pub record IsGoodReportWith (text : List ℕ) (IsSo : ModelledRun → Type 0) : Type 0 where
  pub lines : List ReportLine
  pub printed : text ≡ text_of lines
  pub good : AreGood lines
  pub is : IsSo (report_run_of lines)

-- a text is a good report, and the answer is that on what its lines say
abbrev pub IsAnswerToReport : {A : Type 0} → List ℕ → Options → Answer A → Type 0
IsAnswerToReport text options a = IsGoodReportWith text (λ r. IsAnswerToRun r options a)

-- it is one, and there is no answer on what its lines say
abbrev pub HasNoRunAnswer : List ℕ → NoReportAnswer → Type 0
HasNoRunAnswer text why = IsGoodReportWith text (λ r. IsNoAnswerToRun r why)

-- why there is no answer: the report is bad, or there is none on what its lines say, or memory was
-- refused
abbrev pub IsNoAnswerToReport : List ℕ → NoReportAnswer → Type 0
IsNoAnswerToReport text (Bad line) = FirstBad text line
IsNoAnswerToReport text (NoOrder line) = HasNoRunAnswer text (NoOrder line)
IsNoAnswerToReport text (Unjudged why) = HasNoRunAnswer text (Unjudged why)
IsNoAnswerToReport text Memory = Unit {0}

-- scripts are those of a machine, which has the shape and the number of words of a run
pub record IsRunOf (machine : MachineSpec) (scripts : ScriptsSpec) (r : ModelledRun) : Type 0 where
  pub fit : Fit scripts machine
  pub radices : r.radices ≡ Some (radices_of machine.shape.radices)
  pub words : r.words ≡ length machine.opening

-- a machine and its scripts
module _ (machine : MachineSpec) (scripts : ScriptsSpec) where
  -- a run's operations are those that the scripts issue, each the next one of its processor
  abbrev pub IsScripted : ModelledRun → Type 0
  IsScripted r = AreAllScripted scripts.lists (made_of (rows_of r)) (tiles_of machine.shape)

  -- the programs of a run: the operations with the fences of the scripts
  abbrev pub programs_run : ModelledRun → List ProgramStep
  programs_run r = programs_of scripts.lists (made_of (rows_of r)) (tiles_of machine.shape)

  -- the answer on the log of a run with the fences of the scripts that were run
  pub record IsAnswerWithFences {A : Type 0} (r : ModelledRun) (options : Options) (a : Answer A) : Type 0
    where
      pub ordered : lacks_order r ≡ false
      pub run : IsRunOf machine scripts r
      pub scripted : IsScripted r
      pub is : IsAnswerToLines r.words (entries_with r (programs_run r)) options a

  -- there is none on that log
  pub record IsUnjudgedWithFences (r : ModelledRun) (why : NoAnswer) : Type 0 where
    pub ordered : lacks_order r ≡ false
    pub run : IsRunOf machine scripts r
    pub scripted : IsScripted r
    pub is : IsNoAnswerToLines r.words (entries_with r (programs_run r)) why

  -- why there is none: as without scripts; or the run is of another machine, told at the line of its
  -- shape; or it has an operation that the scripts don't issue there
  abbrev pub IsNoAnswerWithFences : ModelledRun → NoTextsAnswer → Type 0
  IsNoAnswerWithFences r (texts.Report (Bad line)) = ⊥
  IsNoAnswerWithFences r (texts.Report (NoOrder line)) =
      (lacks_order r ≡ true) × (line ≡ r.count)
  IsNoAnswerWithFences r (texts.Report (Unjudged why)) = IsUnjudgedWithFences r why
  IsNoAnswerWithFences r (texts.Report Memory) = Unit {0}
  IsNoAnswerWithFences r (texts.OtherShape line) =
      (lacks_order r ≡ false) × (IsRunOf machine scripts r → ⊥) × (line ≡ 2)
  IsNoAnswerWithFences r (texts.OtherOperation line p passed) =
      (lacks_order r ≡ false) × IsRunOf machine scripts r
      × IsUnscriptedAmong scripts.lists (made_of (rows_of r)) (tiles_of machine.shape)
      (texts.OtherOperation line p passed)

  -- the answer on a good report, with the fences of the scripts that were run
  abbrev pub IsAnswerToReportOf : {A : Type 0} → List ℕ → Options → Answer A → Type 0
  IsAnswerToReportOf text options a =
      IsGoodReportWith text (λ r. IsAnswerWithFences r options a)

  -- why there is none
  abbrev pub IsNoAnswerToReportOf : List ℕ → NoTextsAnswer → Type 0
  IsNoAnswerToReportOf text (texts.Report (Bad line)) = FirstBad text line
  IsNoAnswerToReportOf text (texts.Report Memory) = Unit {0}
  IsNoAnswerToReportOf text why = IsGoodReportWith text (λ r. IsNoAnswerWithFences r why)
