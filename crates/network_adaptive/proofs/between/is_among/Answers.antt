use Rattle.std.proofs.Common.{arith}
use Rattle.network_adaptive.proofs.Flags.{up_inside}
use Rattle.network_adaptive.proofs.between.is_among.Goals as goal

pub returns : goal.returns
returns c = λ a. c.loop-x.invariant a (let low = up_inside c.args.flags.now a.head a.up in let size = c.requires.size in omega arith)
