use Rattle.std.proofs.Common.{[], refl, arith}
use Rattle.network_judge.specs.Table.{Table, table_of}
use Rattle.network_judge.specs.Verdicts.{join_at}
use Rattle.network_judge.proofs.Marking.{joined_at}
use Rattle.network_adaptive.proofs.Begins.{all_begun}
use Rattle.network_adaptive.proofs.comes.begin.Goals as goal

pub bounds-seen-pair : goal.bounds-seen-pair
bounds-seen-pair c =
    let t : Table = table_of [] c.args.joins.now [] in
    let low = c.requires.within (join_at t c.loop-p.p).from (join_at t c.loop-p.p).to
    (joined_at t c.loop-p.p (join_at t c.loop-p.p).from (join_at t c.loop-p.p).to (omega arith) refl refl) in
    omega (arith, low, c.loop-p.invariant.size, c.requires.size)

pub returns : goal.returns
returns c = all_begun c.args.joins.now c.args.to c.loop-p.p c.args.seen.now c.loop-p.seen (omega arith) c.loop-p.invariant
