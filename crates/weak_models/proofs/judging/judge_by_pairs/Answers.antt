use Rattle.std.proofs.Common.{length, subst}
use Rattle.std.specs.Prelude.{slice_index}
use Rattle.rising.specs.declared.edge.Found.TheVariants.{Rising, Cycle}
use Rattle.rising.specs.Graph.{RisesOnEdges}
use Rattle.rising.specs.Found.{IsOrderOrCycle, IsEdgeCycle}
use Rattle.weak_models.specs.Arcs.{AreReasoned}
use Rattle.weak_models.proofs.Exact.{is_rvwmo, no_rvwmo, around}
use Rattle.weak_models.proofs.judging.judge_by_pairs.Goals as goal

pub returns-in-Rising : goal.returns-in-Rising
returns-in-Rising g c =
    let found : IsOrderOrCycle {A = g.row.A.Denot} (length c.args.operations.now) c.deref.result.now (Rising c.in-Rising.turns) =
    subst (λ z. IsOrderOrCycle {A = g.row.A.Denot} (length c.args.operations.now) c.deref.result.now z) c.in-Rising.is c.in_ok-turns.ensures in
    let edges = c.program_arcs.new.edges.items in
    let rises : RisesOnEdges edges (slice_index c.in-Rising.turns.items) = subst (λ z. RisesOnEdges z (slice_index c.in-Rising.turns.items)) c.deref.ensures.value found.1 in
    let p = c.in_ok-program_arcs.ensures in (
      found.0,
      is_rvwmo c.args.words c.args.notes.now c.args.dependencies.now c.args.operations.now c.args.writes.now c.args.arcs.items edges
          (slice_index c.in-Rising.turns.items) c.requires.trace c.requires.other p.more p.rises rises found.0.apart,
    )

pub returns : goal.returns
returns g c =
    let found : IsOrderOrCycle {A = g.row.A.Denot} (length c.args.operations.now) c.deref.result.now (Cycle c.in-Cycle.cycle) =
    subst (λ z. IsOrderOrCycle {A = g.row.A.Denot} (length c.args.operations.now) c.deref.result.now z) c.in-Cycle.is c.in_ok-turns.ensures in
    let edges = c.program_arcs.new.edges.items in
    let cycle : IsEdgeCycle edges c.in-Cycle.cycle.items = subst (λ z. IsEdgeCycle z c.in-Cycle.cycle.items) c.deref.ensures.value found in
    let steps : AreReasoned c.args.notes.now c.args.dependencies.now c.args.operations.now c.args.writes.now edges c.in-Cycle.cycle.items
    c.in_ok-steps_of-in-Cycle.field-0.items =
    subst (λ z. AreReasoned c.args.notes.now c.args.dependencies.now c.args.operations.now c.args.writes.now z c.in-Cycle.cycle.items
    c.in_ok-steps_of-in-Cycle.field-0.items) c.deref-in-Cycle.ensures.value
    (subst (λ z. AreReasoned c.args.notes.now c.args.dependencies.now c.args.operations.now c.args.writes.now c.deref-in-Cycle.result.now z
    c.in_ok-steps_of-in-Cycle.field-0.items) c.deref-in-Cycle-2.ensures.value c.in_ok-steps_of-in-Cycle.ensures) in (
      around c.args.notes.now c.args.dependencies.now c.args.operations.now c.args.writes.now edges c.in-Cycle.cycle.items
          c.in_ok-steps_of-in-Cycle.field-0.items cycle steps,
      no_rvwmo c.args.words c.args.notes.now c.args.dependencies.now c.args.operations.now c.args.writes.now edges c.in-Cycle.cycle.items
          c.requires.trace c.in_ok-program_arcs.ensures.arcs cycle,
    )
