-- Why there is no answer to a report, said of the reason that was found.
use Rattle.std.proofs.Common.{◌≡◌, List, ℕ, subst}
use Rattle.report_model.specs.declared.answer.NoReportAnswer.{NoReportAnswer}
use Rattle.report_model.specs.Answers.{IsNoAnswerToReport}

pub none_for : (report : List ℕ) (why found : NoReportAnswer) → why ≡ found → IsNoAnswerToReport report why → IsNoAnswerToReport report found
none_for report why found e none = subst (λ (w : NoReportAnswer). IsNoAnswerToReport report w) e none
