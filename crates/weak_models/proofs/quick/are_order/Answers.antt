use Rattle.std.proofs.Common.{refl, arith}
use Rattle.weak_models.proofs.Judged.{judged}
use Rattle.weak_models.proofs.quick.are_order.Goals as goal

pub returns : goal.returns
returns c = λ is. judged c.args.words c.args.notes.now c.args.dependencies.now c.args.operations.now c.args.writes.now c.args.arcs.now c.args.turns.now
    c.args.bounds.now c.requires.trace c.requires.arcs c.requires.turns (omega arith) (c.if-not-rise_along.ensures refl) (c.if-not-are_kept.ensures refl)
    (c.if-not-are_chained.ensures refl) (c.are_dependencies_kept.ensures is) c.requires.coherent
