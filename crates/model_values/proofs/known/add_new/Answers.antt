use Rattle.model_values.proofs.Table.{before_more}
use Rattle.model_values.proofs.known.add_new.Goals as goal

pub loop-z-preserved : goal.loop-z-preserved
loop-z-preserved c = before_more c.args.size c.args.level c.args.wanted c.args.x c.args.y c.loop-z.z c.is_before-before.result c.args.table.now
    c.loop-z.table c.put_behind-in-loop-z.new.table c.requires.x c.loop-z-test.true c.if-not-wanted.false c.is_before-before.ensures c.loop-z.invariant
    c.put_behind-in-loop-z.ensures
