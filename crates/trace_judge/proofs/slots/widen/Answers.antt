use Rattle.trace_judge.proofs.Parting.{pads_none, pads_more}
use Rattle.trace_judge.proofs.slots.widen.Goals as goal

pub loop-init : goal.loop-init
loop-init g c = pads_none c.args.table.now.items

pub loop-preserved : goal.loop-preserved
loop-preserved g c = pads_more c.args.table.now.items c.loop.table.items c.push.new.self.items c.loop.counter c.loop.invariant c.in_ok-push.ensures.items
