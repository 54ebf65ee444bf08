use Rattle.std.proofs.Common.{arith}
use Rattle.weak_models.proofs.Edges.{pair_step}
use Rattle.weak_models.proofs.pairs.pair_arcs.Goals as goal

pub loop-w-preserved : goal.loop-w-preserved
loop-w-preserved g c =
    let i = c.loop-w.invariant in
    let s = pair_step c.args.notes.now c.args.dependencies.now c.args.operations.now c.args.writes.now c.loop-w.w c.first_behind-found.result
    c.loop-w.edges.items c.push_to.new.edges.items c.loop-w-test.true c.first_behind-found.ensures c.in_ok-push_to.ensures i.arcs i.rises in
    record { arcs = s.arcs; more = λ number up. i.more number (s.more number up); rises = s.rises }

pub returns-clause-rises : goal.returns-clause-rises
returns-clause-rises g c number up w z low high is = let over = c.loop-w-test.false in c.loop-w.invariant.rises number up w z (omega arith) high is
