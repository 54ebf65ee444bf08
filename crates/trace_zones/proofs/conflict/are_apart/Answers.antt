use Rattle.std.proofs.Common.{arith}
use Rattle.trace_zones.proofs.Among.{apart_all}
use Rattle.trace_zones.proofs.conflict.are_apart.Goals as goal

pub returns : goal.returns
returns c = λ yes. apart_all c.args.one.now c.args.other.now c.loop-i.i (omega arith) c.loop-i.invariant
