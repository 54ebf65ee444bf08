use Rattle.std.proofs.Common.{◌≡◌, true, refl}
use Rattle.memory_models.specs.Trace.{operation_at, uses_word}
use Rattle.weak_models.specs.Bounds.{IsKeptAt}
use Rattle.weak_models.proofs.Below.{and_next}
use Rattle.weak_models.proofs.keeping.are_kept.Goals as goal

pub loop-y-preserved : goal.loop-y-preserved
loop-y-preserved c = record {
  each = and_next (λ y. uses_word (operation_at c.args.operations.now y).kind ≡ true
      → IsKeptAt c.args.notes.now c.args.operations.now c.args.writes.now c.args.turns.now c.args.bounds.now y) c.loop-y.y
      c.loop-y.invariant.each (c.if-not-is_kept_at.ensures refl);
}
