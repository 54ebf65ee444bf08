use Rattle.machine_core.proofs.ShownRows.{shows_row}
use Rattle.machine_core.proofs.laws.rows_show_machines.Goals as goal

pub returns : goal.returns
returns c = shows_row
