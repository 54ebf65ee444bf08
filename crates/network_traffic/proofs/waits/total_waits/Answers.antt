use Rattle.std.proofs.Common.{◌∙◌, ap, is_some, arith}
use Rattle.std.proofs.lemmas.List.{length-set}
use Rattle.network_traffic.proofs.Waiting.{counted_at, total_more}
use Rattle.network_traffic.proofs.waits.total_waits.Goals as goal

pub loop-x-preserved : goal.loop-x-preserved
loop-x-preserved c =
    let l = c.loop-x in
    let low = c.loop-x-test.true in
    let many = c.requires in
    let size = l.invariant.size in
    let full = c.is_some-is_full.ensures ∙ ap is_some c.packet_at.ensures.value in
    record {
      size = length-set l.waited l.x c.total.result ∙ size;
      total = λ counts few shows. total_more counts l.waited l.x c.total.result (omega (arith, low, many, size)) (l.invariant.total counts few shows)
          (c.total.ensures (counts l.x) (few l.x)
          (counted_at counts c.args.rounds l.x c.args.latches.now c.args.waits.now _ c.is_some-is_full.result full low shows));
    }

pub returns-clause-total : goal.returns-clause-total
returns-clause-total c = λ counts few shows x low. c.loop-x.invariant.total counts few shows x (let end = c.loop-x-test.false in omega (arith, low, end))
