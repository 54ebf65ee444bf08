use Rattle.std.proofs.Common.{refl}
use Rattle.weak_models.specs.Bounds.{IsChainedAt}
use Rattle.weak_models.proofs.Below.{and_next}
use Rattle.weak_models.proofs.keeping.are_chained.Goals as goal

pub loop-y-preserved : goal.loop-y-preserved
loop-y-preserved c = record {
  each = and_next (IsChainedAt c.args.notes.now c.args.operations.now c.args.turns.now c.args.bounds.now) c.loop-y.y c.loop-y.invariant.each
      (c.if-not-is_chained_at.ensures refl);
}
