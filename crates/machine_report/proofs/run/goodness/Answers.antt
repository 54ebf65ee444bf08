use Rattle.std.proofs.Common.{All, subst}
use Rattle.report_lines.specs.Fits.{FitsLine}
use Rattle.machine_report.proofs.Good.{good_report}
use Rattle.machine_report.proofs.run.goodness.Goals as goal

pub returns : goal.returns
returns g c = good_report (g.S.Reached.core c.args.reached.now) c.args.report.now c.contents_are_good.ensures c.reports_well.ensures c.requires
    (subst (All FitsLine) c.lines.ensures c.numbers_fit.ensures)
