use Rattle.std.proofs.Common.{◌≤◌, arith, length}
use Rattle.fabric.proofs.SeenEnds.{ended}
use Rattle.fabric.proofs.seats.TileSeat.has_seen.Goals as goal

pub returns-clause-ended : goal.returns-clause-ended
returns-clause-ended g c = λ is.
    let all : length c.self.inside.slots.items ≤ c.loop-number.number = omega arith in
    ended c.self.inside.slots.items c.self.inside.seat c.args.self.now c.loop-number.number c.self.view_is c.self.invariant.0 all
    (c.loop-number.invariant.some is) c.loop-number.invariant.seen
