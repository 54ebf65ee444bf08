use Rattle.std.proofs.Common.{arith}
use Rattle.weak_models.proofs.Edges.{onto_step}
use Rattle.weak_models.proofs.arcs.arcs_onto.Goals as goal

pub loop-x-preserved : goal.loop-x-preserved
loop-x-preserved g c =
    let i = c.loop-x.invariant in
    let s = onto_step c.args.notes.now c.args.dependencies.now c.args.operations.now c.args.writes.now c.args.y c.loop-x.x c.is_preserved-kept.result
    c.loop-x.edges.items c.push_if.new.edges.items c.requires.y c.loop-x-test.true c.is_preserved-kept.ensures.yes c.is_preserved-kept.ensures.no
    c.in_ok-push_if.ensures i.arcs i.rises in
    record { arcs = s.arcs; more = λ number up. i.more number (s.more number up); rises = s.rises }

pub returns-clause-rises : goal.returns-clause-rises
returns-clause-rises g c number up x low kept = let over = c.loop-x-test.false in c.loop-x.invariant.rises number up x (omega arith) kept
