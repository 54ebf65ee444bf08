use Rattle.std.proofs.Common.{length, subst}
use Rattle.rising.specs.declared.edge.Found.TheVariants.{Cycle}
use Rattle.rising.specs.Found.{IsEdgeCycle, IsOrderOrCycle}
use Rattle.model_values.proofs.forced.is_refuted.Goals as goal

pub returns-in-Cycle : goal.returns-in-Cycle
returns-in-Cycle g c so turn order =
    let q = c.args.question.now in
    let found : IsOrderOrCycle {A = g.row.A.Denot} (length q.operations.now) c.deref.result.now (Cycle c.in-Cycle.field-0) =
    subst (λ z. IsOrderOrCycle {A = g.row.A.Denot} (length q.operations.now) c.deref.result.now z) c.in-Cycle.is c.in_ok-rise.ensures in
    let cycle : IsEdgeCycle c.in_ok-edges.edges.items c.in-Cycle.field-0.items =
    subst (λ z. IsEdgeCycle z c.in-Cycle.field-0.items) c.deref.ensures.value found in
    c.cycles_have_no_numbers.ensures c.in_ok-edges.edges.items c.in-Cycle.field-0.items cycle turn (c.in_ok-edges.ensures.rises turn order)
