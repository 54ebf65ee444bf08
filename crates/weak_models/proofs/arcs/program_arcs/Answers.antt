use Rattle.std.proofs.Common.{arith}
use Rattle.weak_models.proofs.Edges.{program_more}
use Rattle.weak_models.proofs.arcs.program_arcs.Goals as goal

pub loop-y-preserved : goal.loop-y-preserved
loop-y-preserved g c =
    let i = c.loop-y.invariant in
    let e = c.in_ok-arcs_onto.ensures in
    record {
      arcs = e.arcs;
      more = λ number up. i.more number (e.more number up);
      rises = program_more c.args.notes.now c.args.dependencies.now c.args.operations.now c.args.writes.now c.loop-y.y c.loop-y.edges.items
          c.arcs_onto.new.edges.items e.more e.rises i.rises;
    }

pub returns-clause-rises : goal.returns-clause-rises
returns-clause-rises g c number up x y low kept = let over = c.loop-y-test.false in c.loop-y.invariant.rises number up x y (omega arith) kept
