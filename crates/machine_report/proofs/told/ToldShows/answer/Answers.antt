use Rattle.core_laws.specs.Machine.{shown}
use Rattle.machine_report.specs.Report.{answer_row}
use Rattle.machine_report.proofs.Rows.{row_told}
use Rattle.machine_report.proofs.told.ToldShows.answer.Goals as goal

pub returns : goal.returns
returns g c =
    row_told answer_row (shown (g.S.Reached.core c.args.self.now.reached.now)).answers c.args.processor c.args.number c.answers.result.now c.element.result c.answer_row.result
    c.answer_row.ensures c.element.ensures c.answers.ensures
