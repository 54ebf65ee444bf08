use Rattle.report_check.specs.Good.{GoodReport}
use Rattle.report_check.specs.Seen.{nothing_seen}
use Rattle.report_model.specs.Answers.{IsAnswerWithFences}
use Rattle.report_model.specs.Run.{run_seen}
use Rattle.report_model.proofs.Answering.{none_with, on_good_report}
use Rattle.report_model.proofs.Reading.{standing_fit}
use Rattle.report_model.proofs.fenced.answer_to_report_of.Goals as goal

pub returns-in-Ok-answer_with_fences-clause-answer : goal.returns-in-Ok-answer_with_fences-clause-answer
returns-in-Ok-answer_with_fences-clause-answer g c =
    let good : GoodReport c.args.report.now = c.in-Ok.ensures.good in
    on_good_report (λ r. IsAnswerWithFences c.args.machine.now c.args.scripts.now r c.args.options c.in-Ok-answer_with_fences.answer)
    c.args.report.now good.lines (run_seen c.in-Ok-read_run.run') good.printed good.good
    (c.in-Ok-read_run.ensures good.lines (standing_fit nothing_seen good.lines good.good.each) good.printed) c.in-Ok-answer_with_fences.ensures.answer

pub returns-clause-none : goal.returns-clause-none
returns-clause-none g c =
    let good : GoodReport c.args.report.now = c.in-Ok.ensures.good in
    none_with c.args.machine.now c.args.scripts.now c.args.report.now good.lines (run_seen c.in-Ok-read_run.run') c.in-Err.why good.printed good.good
    (c.in-Ok-read_run.ensures good.lines (standing_fit nothing_seen good.lines good.good.each) good.printed) c.in-Err.ensures.none
