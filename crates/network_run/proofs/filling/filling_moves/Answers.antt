use Rattle.std.proofs.Common.{◌-◌, length, refl}
use Rattle.network_run.proofs.Ways.{items_more}
use Rattle.network_run.proofs.filling.filling_moves.Goals as goal

pub loop-k-preserved : goal.loop-k-preserved
loop-k-preserved g c =
    items_more c.args.network.now.table c.args.depth c.args.fills.now c.loop-k.k (length c.args.fills.now - 1 - c.loop-k.k) c.loop-k.moves.items
    c.put_fill.new.moves.items c.in_ok-way.way.before.items c.in_ok-way.way.last refl c.loop-k-test.true c.loop-k.invariant c.in_ok-way.ensures
    c.in_ok-put_fill.ensures
