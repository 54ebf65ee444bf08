use Rattle.std.proofs.Common.{subst}
use Rattle.memory_models.specs.declared.kinds.Verdict.TheVariants.{Cycle}
use Rattle.memory_models.specs.Verdict.{IsModelVerdict}
use Rattle.model_values.proofs.Accepted.{leaf_placing, leaf_order}
use Rattle.model_values.proofs.search.leaf.Goals as goal

pub returns-then-not-is_placing : goal.returns-then-not-is_placing
returns-then-not-is_placing g c = leaf_placing c.args.question.now c.args.table.now c.args.level c.in_ok-operations.operations.items
    c.in_ok-writes.writes.items c.deref.result.now c.deref-2.result.now c.deref-3.result.now c.count_writes.result c.deref.ensures.value
    c.count_writes.ensures c.deref-2.ensures.value c.deref-3.ensures.value c.requires.settled c.in_ok-operations.ensures c.in_ok-writes.ensures
    (c.is_placing.ensures.no c.if-not-is_placing.true)

pub returns-in-Cycle : goal.returns-in-Cycle
returns-in-Cycle g c =
    let v : IsModelVerdict {A = g.row.A.Denot} c.args.question.now.rules.now c.deref-4.result.now c.deref-5.result.now (Cycle c.in-Cycle.field-0) =
    subst (λ z. IsModelVerdict {A = g.row.A.Denot} c.args.question.now.rules.now c.deref-4.result.now c.deref-5.result.now z) c.in-Cycle.is c.in_ok-judge.ensures in
    leaf_order c.args.question.now c.args.table.now c.args.level c.in_ok-operations.operations.items
    c.in_ok-writes.writes.items c.deref.result.now c.deref-4.result.now c.deref-5.result.now c.count_writes.result c.deref.ensures.value
    c.count_writes.ensures c.deref-4.ensures.value c.deref-5.ensures.value c.requires.settled c.in_ok-operations.ensures c.in_ok-writes.ensures v.1
