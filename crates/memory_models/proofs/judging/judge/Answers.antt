use Rattle.std.proofs.Common.{length, subst}
use Rattle.rising.specs.declared.edge.Found.TheVariants.{Rising, Cycle}
use Rattle.std.specs.Prelude.{slice_index}
use Rattle.rising.specs.Graph.{RisesOnEdges}
use Rattle.rising.specs.Found.{IsOrderOrCycle, IsEdgeCycle}
use Rattle.memory_models.specs.Arcs.{AreSteps}
use Rattle.memory_models.proofs.Exact.{AllRise, is_order, around, no_order}
use Rattle.memory_models.proofs.judging.judge.Goals as goal

pub returns-in-Rising : goal.returns-in-Rising
returns-in-Rising g c =
    let found : IsOrderOrCycle {A = g.row.A.Denot} (length c.args.operations.now) c.deref.result.now (Rising c.in-Rising.turns) =
    subst (λ z. IsOrderOrCycle {A = g.row.A.Denot} (length c.args.operations.now) c.deref.result.now z) c.in-Rising.is c.in_ok-turns.ensures in
    let rises : RisesOnEdges c.word_arcs.new.edges.items (slice_index c.in-Rising.turns.items) = subst (λ z. RisesOnEdges z (slice_index c.in-Rising.turns.items)) c.deref.ensures.value found.1 in
    let p = c.in_ok-program_arcs.ensures in
    let s = c.in_ok-stale_arcs.ensures in
    let w = c.in_ok-word_arcs.ensures in
    let all : AllRise c.args.rules.now c.args.operations.now c.args.writes.now c.word_arcs.new.edges.items = record {
      each = λ k l number up. p.rules k l number (s.more number (w.more number up));
      own = λ number up. p.writes number (s.more number (w.more number up));
      stale = λ number up. s.rises number (w.more number up);
      word = w.rises;
    } in (
      found.0,
      is_order c.args.words c.args.rules.now c.args.operations.now c.args.writes.now c.word_arcs.new.edges.items (slice_index c.in-Rising.turns.items) c.requires.trace all rises found.0.apart,
    )

pub returns : goal.returns
returns g c =
    let found : IsOrderOrCycle {A = g.row.A.Denot} (length c.args.operations.now) c.deref.result.now (Cycle c.in-Cycle.cycle) =
    subst (λ z. IsOrderOrCycle {A = g.row.A.Denot} (length c.args.operations.now) c.deref.result.now z) c.in-Cycle.is c.in_ok-turns.ensures in
    let edges = c.word_arcs.new.edges.items in
    let cycle : IsEdgeCycle edges c.in-Cycle.cycle.items = subst (λ z. IsEdgeCycle z c.in-Cycle.cycle.items) c.deref.ensures.value found in
    let steps : AreSteps edges c.in-Cycle.cycle.items c.in_ok-steps_of-in-Cycle.field-0.items =
    subst (λ z. AreSteps z c.in-Cycle.cycle.items c.in_ok-steps_of-in-Cycle.field-0.items) c.deref-in-Cycle.ensures.value
    (subst (λ z. AreSteps c.deref-in-Cycle.result.now z c.in_ok-steps_of-in-Cycle.field-0.items) c.deref-in-Cycle-2.ensures.value
    c.in_ok-steps_of-in-Cycle.ensures) in (
      around c.args.rules.now c.args.operations.now c.args.writes.now edges c.in-Cycle.cycle.items c.in_ok-steps_of-in-Cycle.field-0.items
          c.in_ok-word_arcs.ensures.arcs cycle steps,
      no_order c.args.words c.args.rules.now c.args.operations.now c.args.writes.now edges c.in-Cycle.cycle.items c.requires.trace
          c.in_ok-word_arcs.ensures.arcs cycle,
    )
