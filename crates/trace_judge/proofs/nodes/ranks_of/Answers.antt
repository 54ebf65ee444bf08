use Rattle.std.proofs.Common.{◌<◌, false, length, arith}
use Rattle.std.proofs.lemmas.Option.{slice_get-get_or}
use Rattle.trace_judge.proofs.Ranks.{ranking_none, ranking_more, ranking_all}
use Rattle.trace_judge.proofs.nodes.ranks_of.Goals as goal

pub loop-i-init : goal.loop-i-init
loop-i-init g c = ranking_none c.args.marks.now c.new-ranks.result.items c.new-ranks.ensures.items

pub loop-i-preserved : goal.loop-i-preserved
loop-i-preserved g c =
    let l : c.loop-i.i < length c.args.marks.now = omega arith in
    ranking_more c.args.marks.now c.loop-i.i c.loop-i.ranks.items c.push.new.self.items c.loop-i.count c.counted-count.result _
    (slice_get-get_or c.args.marks.now c.loop-i.i false l) c.in_ok-push.ensures.items c.counted-count.ensures c.loop-i.invariant

pub returns : goal.returns
returns g c = ranking_all c.args.marks.now c.loop-i.i c.loop-i.ranks.items c.loop-i.count (omega arith) c.loop-i.invariant
