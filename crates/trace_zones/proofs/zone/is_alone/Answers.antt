use Rattle.std.proofs.Common.{arith}
use Rattle.trace_zones.specs.Zones.{is_listed}
use Rattle.trace_zones.proofs.Checks.{alone_all, alone_more}
use Rattle.trace_zones.proofs.zone.is_alone.Goals as goal

pub loop-i-preserved : goal.loop-i-preserved
loop-i-preserved c = alone_more c.args.events.now c.args.word (is_listed c.args.set.now) c.args.entry c.loop-i.i
    (c.may_enter_else.ensures c.if-may_enter_else.false) c.loop-i.invariant

pub returns : goal.returns
returns c = λ yes. alone_all c.args.events.now c.args.word (is_listed c.args.set.now) c.args.entry c.loop-i.i (omega arith) c.loop-i.invariant
