use Rattle.std.proofs.Common.{subst, arith}
use Rattle.rising.specs.declared.search.Visited.TheVariants.{Finished}
use Rattle.rising.specs.Graph.{Digraph}
use Rattle.rising.specs.Search.{IsExplored}
use Rattle.rising.proofs.Ranks.{begin, begun_more, all_ranked}
use Rattle.rising.proofs.search.visit_all.Goals as goal

pub loop-start-init : goal.loop-start-init
loop-start-init g c =
    let deps : Digraph = g.G.Graph.digraph c.args.graph.now in
    record { search = begin deps c.args.marks.now c.requires.size c.requires.new; begun = λ x l. absurd (omega arith) }

pub loop-start-preserved : goal.loop-start-preserved
loop-start-preserved g c =
    let deps : Digraph = g.G.Graph.digraph c.args.graph.now in
    let found : IsExplored {A = g.row.A.Denot} deps c.loop-start.marks c.visit.new.marks c.loop-start.start (Finished c.in-Finished.count) =
    subst (λ z. IsExplored {A = g.row.A.Denot} deps c.loop-start.marks c.visit.new.marks c.loop-start.start z) c.in-Finished.is c.in_ok-count.ensures in
    record {
      search = found.0;
      begun = begun_more deps c.loop-start.marks c.visit.new.marks c.loop-start.finished c.loop-start.start c.in-Finished.count
          c.loop-start.invariant.search c.loop-start.invariant.begun found.1 found.2;
    }

pub returns : goal.returns
returns g c =
    let deps : Digraph = g.G.Graph.digraph c.args.graph.now in
    all_ranked deps c.loop-start.marks c.loop-start.finished c.loop-start.invariant.search (λ x l. c.loop-start.invariant.begun x (omega arith))
