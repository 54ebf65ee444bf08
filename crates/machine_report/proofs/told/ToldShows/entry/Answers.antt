use Rattle.core_laws.specs.Machine.{shown}
use Rattle.machine_report.specs.Report.{entry_row}
use Rattle.machine_report.proofs.Rows.{row_told}
use Rattle.machine_report.proofs.told.ToldShows.entry.Goals as goal

pub returns : goal.returns
returns g c =
    row_told entry_row (shown (g.S.Reached.core c.args.self.now.reached.now)).entries c.args.bank c.args.place c.services.result.now c.element.result c.entry_row.result
    c.entry_row.ensures c.element.ensures c.services.ensures
