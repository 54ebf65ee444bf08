use Rattle.model_values.proofs.Rivals.{first_rises}
use Rattle.model_values.proofs.Table.{has_spread, spread_noted}
use Rattle.model_values.proofs.first.start_row.Goals as goal

pub loop-y-init : goal.loop-y-init
loop-y-init c = has_spread c.args.question.now 0 c.args.table.now

pub loop-y-preserved : goal.loop-y-preserved
loop-y-preserved c = spread_noted c.args.question.now 0 c.starts-wanted.result c.args.x c.loop-y.y c.args.table.now c.loop-y.table c.add.new.table
    c.loop-y.invariant c.add.ensures.noted
    (λ turn order _ fact. first_rises c.args.question.now c.args.x c.loop-y.y turn c.requires.x c.loop-y-test.true (c.starts-wanted.ensures fact) order)
