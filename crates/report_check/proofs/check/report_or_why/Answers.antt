use Rattle.std.proofs.lemmas.Result.{IfOk-weaker}
use Rattle.report_check.proofs.Judged.{judges_good, judges_line, judges_reason}
use Rattle.report_check.proofs.check.report_or_why.Goals as goal

pub returns-clause-good : goal.returns-clause-good
returns-clause-good g c = IfOk-weaker c.judged.result _ _ (λ found h. judges_good c.args.report.now found h) c.judged.ensures

pub returns-clause-line : goal.returns-clause-line
returns-clause-line g c = IfOk-weaker c.judged.result _ _ (λ found h. judges_line c.args.report.now found h) c.judged.ensures

pub returns-clause-reason : goal.returns-clause-reason
returns-clause-reason g c = IfOk-weaker c.judged.result _ _ (λ found h. judges_reason c.args.report.now found h) c.judged.ensures
