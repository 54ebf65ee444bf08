use Rattle.model_values.proofs.Table.{has_spread, spread_then}
use Rattle.model_values.proofs.first.start_rows.Goals as goal

pub loop-i-init : goal.loop-i-init
loop-i-init c = has_spread c.args.question.now 0 c.args.table.now

pub loop-i-preserved : goal.loop-i-preserved
loop-i-preserved c = spread_then c.args.question.now 0 c.args.table.now c.loop-i.table c.start_row.new.table c.loop-i.invariant c.start_row.ensures
