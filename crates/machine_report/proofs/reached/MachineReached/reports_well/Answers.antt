use Rattle.machine_report.proofs.reached.MachineReached.reports_well.Goals as goal

pub returns : goal.returns
returns g c = let r = c.reached.ensures.after in c.reached_machines_report_well.ensures r.0 c.args.self.now r.1 r.2
