use Rattle.std.proofs.Common.{arith}
use Rattle.network_judge.specs.Table.{Table, table_of}
use Rattle.network_answer.proofs.Counting.{longer, no_longer, longest_of_all}
use Rattle.network_answer.proofs.totals.longest_route.Goals as goal
use Rattle.network_answer.proofs.totals.longest_route.Goals.{then-channels-most, else-channels-most}

pub loop-place-preserved : goal.loop-place-preserved
loop-place-preserved c =
    let t : Table = table_of c.args.kinds.now c.args.joins.now c.args.choices.now in
    let l = c.loop-place in
    let channels = c.route_channels-channels in
    elim c.if-channels-most.branch [
      | then-channels-most w ↦ rw w.most-is
          (longer t l.place l.most channels.result c.loop-place-test.true c.requires.arrive l.invariant channels.ensures.value w.if-channels-most.true)
      | else-channels-most w ↦ rw w.most-is
          (no_longer t l.place l.most channels.result l.invariant channels.ensures.value w.if-channels-most.false)
    ]

pub returns : goal.returns
returns c =
    let t : Table = table_of c.args.kinds.now c.args.joins.now c.args.choices.now in
    let end = c.loop-place-test.false in
    longest_of_all t c.loop-place.place c.loop-place.most (omega arith) c.loop-place.invariant
