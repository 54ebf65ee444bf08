use Rattle.std.proofs.Common.{arith}
use Rattle.network_judge.specs.Table.{Table, table_of}
use Rattle.network_answer.specs.Totals.{IsHopUsed, OfNone}
use Rattle.network_answer.proofs.Counting.{one_more, not_this}
use Rattle.network_answer.proofs.totals.hops_marked.Goals as goal
use Rattle.network_answer.proofs.totals.hops_marked.Goals.{then-is_hop_marked, else-is_hop_marked}

pub loop-x-init : goal.loop-x-init
loop-x-init c = record { value = OfNone; low = omega arith }

pub loop-x-preserved : goal.loop-x-preserved
loop-x-preserved c =
    let t : Table = table_of c.args.kinds.now c.args.joins.now c.args.choices.now in
    let l = c.loop-x in
    let low = l.invariant.low in
    elim c.if-is_hop_marked.branch [
      | then-is_hop_marked w ↦ rw w.count-is (record {
        value = one_more (IsHopUsed t) l.x l.count l.invariant.value (c.is_hop_marked.ensures.yes w.if-is_hop_marked.true);
        low = omega arith;
      })
      | else-is_hop_marked w ↦ rw w.count-is (record {
        value = not_this (IsHopUsed t) l.x l.count l.invariant.value (c.is_hop_marked.ensures.no w.if-is_hop_marked.false);
        low = omega arith;
      })
    ]
