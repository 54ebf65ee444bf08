use Rattle.network_machine.proofs.Cells.{cells_edit}
use Rattle.network_machine.proofs.pairs.mark_pair.Goals as goal

pub returns-then-x-rows-clause-marks : goal.returns-then-x-rows-clause-marks
returns-then-x-rows-clause-marks g c = cells_edit c.args.rows.now c.args.x c.args.y c.mark_cell.new.row _ c.if-x-rows.true c.mark_cell.ensures
