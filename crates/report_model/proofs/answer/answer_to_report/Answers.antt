use Rattle.report_check.specs.Good.{GoodReport}
use Rattle.report_check.specs.Seen.{nothing_seen}
use Rattle.report_model.specs.Run.{run_seen}
use Rattle.report_model.proofs.Answered.{answer_of_report, none_of_report}
use Rattle.report_model.proofs.Reading.{standing_fit}
use Rattle.report_model.proofs.answer.answer_to_report.Goals as goal

pub returns-in-Ok-answer_to_run : goal.returns-in-Ok-answer_to_run
returns-in-Ok-answer_to_run g c =
    let good : GoodReport c.args.report.now = c.in-Ok.ensures.good in
    record {
      answer = answer_of_report c.args.report.now good.lines (run_seen c.in-Ok-read_run.run') c.args.options c.in-Ok-answer_to_run.answer good.printed
          good.good (c.in-Ok-read_run.ensures good.lines (standing_fit nothing_seen good.lines good.good.each) good.printed)
          c.in-Ok-answer_to_run.ensures.answer;
      none = tt;
    }

pub returns-clause-none : goal.returns-clause-none
returns-clause-none g c =
    let good : GoodReport c.args.report.now = c.in-Ok.ensures.good in
    none_of_report c.args.report.now good.lines (run_seen c.in-Ok-read_run.run') c.in-Err.why good.printed good.good
    (c.in-Ok-read_run.ensures good.lines (standing_fit nothing_seen good.lines good.good.each) good.printed) c.in-Err.ensures.none
