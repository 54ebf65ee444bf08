use Rattle.machine_report.proofs.Limits.{within_limits}
use Rattle.machine_report.proofs.run.limits.Goals as goal

pub returns : goal.returns
returns g c = within_limits (g.S.Reached.core c.args.reached.now) c.reports_well.ensures
