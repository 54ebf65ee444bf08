use Rattle.std.proofs.Common.{arith}
use Rattle.channel_number.proofs.number.radices_below.Goals as goal

pub returns-clause-small : goal.returns-clause-small
returns-clause-small c = omega (arith, c.loop-d.invariant.small)
