-- The answer on a good report, by what its lines say.
use Rattle.std.proofs.Common.{◌≡◌, ℕ, List, subst}
use Rattle.report_lines.specs.Line.{text_of}
use Rattle.report_lines.specs.declared.line.ReportLine.{ReportLine}
use Rattle.report_check.specs.Good.{AreGood}
use Rattle.model_answer.specs.declared.answer.Answer.{Answer}
use Rattle.model_answer.specs.declared.answer.NoAnswer.{NoAnswer}
use Rattle.model_answer.specs.declared.answer.Options.{Options}
use Rattle.report_model.specs.declared.entry.LineEntry.{LineEntry}
use Rattle.report_model.specs.LogAnswers.{IsAnswerToLines, IsNoAnswerToLines}
use Rattle.report_model.specs.declared.answer.NoReportAnswer.{NoReportAnswer}
use Rattle.report_model.specs.declared.answer.NoReportAnswer.TheVariants.{Bad, NoOrder, Unjudged, Memory}
use Rattle.report_model.specs.Answers.{HasNoRunAnswer, IsAnswerToReport, IsAnswerToRun, IsNoAnswerToReport, IsNoAnswerToRun}
use Rattle.report_model.specs.Run.{ModelledRun, report_run_of}

-- an answer to lines is one by another name of the number of words and of the entries
pub answer_to_same : {A : Type 0} (words told : ℕ) (entries given : List LineEntry) (options : Options) (a : Answer A) → told ≡ words → given ≡ entries
    → IsAnswerToLines told given options a → IsAnswerToLines words entries options a
answer_to_same words told entries given options a words_are entries_are is =
    subst (λ (es : List LineEntry). IsAnswerToLines words es options a) entries_are
    (subst (λ (w : ℕ). IsAnswerToLines w given options a) words_are is)

pub none_to_same : (words told : ℕ) (entries given : List LineEntry) (why : NoAnswer) → told ≡ words → given ≡ entries
    → IsNoAnswerToLines told given why → IsNoAnswerToLines words entries why
none_to_same words told entries given why words_are entries_are is =
    subst (λ (es : List LineEntry). IsNoAnswerToLines words es why) entries_are
    (subst (λ (w : ℕ). IsNoAnswerToLines w given why) words_are is)

-- the answer on a report, by that on its run
pub answer_of_report : {A : Type 0} (text : List ℕ) (lines : List ReportLine) (r : ModelledRun) (options : Options) (a : Answer A) → text ≡ text_of lines
    → AreGood lines → r ≡ report_run_of lines → IsAnswerToRun r options a → IsAnswerToReport text options a
answer_of_report text lines r options a printed good same is = record {
  lines = lines;
  printed = printed;
  good = good;
  is = subst (λ (s : ModelledRun). IsAnswerToRun s options a) same is;
}

none_on_lines : (text : List ℕ) (lines : List ReportLine) (r : ModelledRun) (why : NoReportAnswer) → text ≡ text_of lines → AreGood lines
    → r ≡ report_run_of lines → IsNoAnswerToRun r why → HasNoRunAnswer text why
none_on_lines text lines r why printed good same is = record {
  lines = lines;
  printed = printed;
  good = good;
  is = subst (λ (s : ModelledRun). IsNoAnswerToRun s why) same is;
}

pub none_of_report : (text : List ℕ) (lines : List ReportLine) (r : ModelledRun) (why : NoReportAnswer) → text ≡ text_of lines → AreGood lines
    → r ≡ report_run_of lines → IsNoAnswerToRun r why → IsNoAnswerToReport text why
none_of_report text lines r (Bad line) printed good same is = absurd is
none_of_report text lines r (NoOrder line) printed good same is = none_on_lines text lines r (NoOrder line) printed good same is
none_of_report text lines r (Unjudged why) printed good same is = none_on_lines text lines r (Unjudged why) printed good same is
none_of_report text lines r Memory printed good same is = tt
