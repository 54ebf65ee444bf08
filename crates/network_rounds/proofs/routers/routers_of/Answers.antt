use Rattle.std.proofs.Common.{arith}
use Rattle.network_judge.specs.Table.{table_of}
use Rattle.network_rounds.proofs.Meeting.{are_routers}
use Rattle.network_rounds.proofs.routers.routers_of.Goals as goal

pub returns : goal.returns
returns g c =
    are_routers (table_of c.args.kinds.now c.args.joins.now c.args.choices.now) c.loop-x.routers.items c.loop-x.firsts.items c.loop-x.x
    (let end = c.loop-x-test.false in omega (arith, end)) c.loop-x.invariant
