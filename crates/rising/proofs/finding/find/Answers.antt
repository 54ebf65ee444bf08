use Rattle.std.proofs.Common.{◌≡◌, length, ◌∙◌, sym, ap, subst, arith}
use Rattle.std.proofs.lemmas.Option.{MatchOption-at_some, MatchOption-at_none}
use Rattle.std.specs.Prelude.{Vec}
use Rattle.rising.specs.declared.search.Look.{Look}
use Rattle.rising.specs.Graph.{Digraph}
use Rattle.rising.specs.Search.{IsCircuit, AreFinishedNodes, AreHeightNumbers}
use Rattle.rising.proofs.Ranks.{written, ranks_low, rises, is_placing}
use Rattle.rising.proofs.finding.find.Goals as goal

pub returns-in-Some : goal.returns-in-Some
returns-in-Some g c =
    let graph : Digraph = g.G.Graph.digraph c.args.graph.now in
    MatchOption-at_some (AreFinishedNodes graph c.visit_all.new.marks) (λ (looks : Vec Look g.row.A.Denot). IsCircuit graph looks.items)
    c.in-Some.looks c.in-Some.is c.in_ok-looks.ensures

pub numbers_of-requires : goal.numbers_of-requires
numbers_of-requires g c =
    let graph : Digraph = g.G.Graph.digraph c.args.graph.now in
    let marks : c.deref.result.now ≡ c.visit_all.new.marks =
    c.deref.ensures.value
    ∙ written c.in_ok-marks.marks.len c.visit_all.new.marks c.in_ok-marks.marks.items
    (omega (arith, c.in_ok-marks.marks.ok.0, c.visit_all.auto.marks, ap length c.deref_mut.ensures.value)) in
    let ranked : AreFinishedNodes graph c.visit_all.new.marks =
    MatchOption-at_none (AreFinishedNodes graph c.visit_all.new.marks) (λ (looks : Vec Look g.row.A.Denot). IsCircuit graph looks.items)
    c.in-None.is c.in_ok-looks.ensures in
    ranks_low graph c.deref.result.now (subst (λ z. AreFinishedNodes graph z) (sym marks) ranked)

pub returns : goal.returns
returns g c =
    let graph : Digraph = g.G.Graph.digraph c.args.graph.now in
    let marks : c.deref.result.now ≡ c.visit_all.new.marks =
    c.deref.ensures.value
    ∙ written c.in_ok-marks.marks.len c.visit_all.new.marks c.in_ok-marks.marks.items
    (omega (arith, c.in_ok-marks.marks.ok.0, c.visit_all.auto.marks, ap length c.deref_mut.ensures.value)) in
    let ranked : AreFinishedNodes graph c.visit_all.new.marks =
    MatchOption-at_none (AreFinishedNodes graph c.visit_all.new.marks) (λ (looks : Vec Look g.row.A.Denot). IsCircuit graph looks.items)
    c.in-None.is c.in_ok-looks.ensures in
    let numbers : AreHeightNumbers c.visit_all.new.marks c.in_ok-numbers_of-in-None.field-0.items =
    subst (λ z. AreHeightNumbers z c.in_ok-numbers_of-in-None.field-0.items) marks c.in_ok-numbers_of-in-None.ensures in (
      is_placing graph c.visit_all.new.marks c.in_ok-numbers_of-in-None.field-0.items ranked numbers,
      rises graph c.visit_all.new.marks c.in_ok-numbers_of-in-None.field-0.items ranked numbers,
    )
