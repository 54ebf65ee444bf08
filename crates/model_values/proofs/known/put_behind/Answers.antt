use Rattle.model_values.proofs.Table.{behind_more}
use Rattle.model_values.proofs.known.put_behind.Goals as goal

pub loop-z-preserved : goal.loop-z-preserved
loop-z-preserved c = behind_more c.args.size c.args.level c.args.wanted c.args.x c.args.y c.loop-z.z c.is_before-behind.result c.args.table.now
    c.loop-z.table c.put-in-loop-z.new.table c.requires.y c.loop-z-test.true c.if-not-wanted.false c.is_before-behind.ensures c.loop-z.invariant
    c.put-in-loop-z.ensures
