use Rattle.machine_report.proofs.Fitting.{fit_report}
use Rattle.machine_report.proofs.run.lines_with.Goals as goal

pub of_shown-requires : goal.of_shown-requires
of_shown-requires g c = fit_report (g.S.Reached.core c.args.reached.now) _ c.limits.ensures
