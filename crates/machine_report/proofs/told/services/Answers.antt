use Rattle.std.proofs.Common.{◌∙◌, ap, sym}
use Rattle.std.specs.Option.{option_copied}
use Rattle.core_laws.specs.Machine.{shown}
use Rattle.machine_report.proofs.Rows.{none_there}
use Rattle.machine_report.proofs.told.services.Goals as goal

pub returns-in-None : goal.returns-in-None
returns-in-None g c =
    none_there (shown (g.S.Reached.core c.args.reached.now)).entries c.args.bank (ap option_copied (sym c.in-None.is) ∙ c.bank.ensures)
