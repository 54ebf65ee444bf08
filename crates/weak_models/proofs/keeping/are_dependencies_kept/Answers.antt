use Rattle.std.proofs.Common.{◌<◌, length, refl, subst}
use Rattle.std.proofs.lemmas.List.{get_or_default}
use Rattle.weak_models.specs.Notes.{dependency_at}
use Rattle.weak_models.specs.Bounds.{IsDependencyKept}
use Rattle.weak_models.proofs.Below.{and_next}
use Rattle.weak_models.proofs.keeping.are_dependencies_kept.Goals as goal

pub loop-k-preserved : goal.loop-k-preserved
loop-k-preserved c = record {
  each = and_next (λ k. (dependency_at c.args.dependencies.now k).on < length c.args.operations.now
      → (dependency_at c.args.dependencies.now k).operation < length c.args.operations.now
      → IsDependencyKept c.args.operations.now c.args.turns.now c.args.bounds.now (dependency_at c.args.dependencies.now k)) c.loop-k.k
      c.loop-k.invariant.each
      (subst (λ d. d.on < length c.args.operations.now → d.operation < length c.args.operations.now
      → IsDependencyKept c.args.operations.now c.args.turns.now c.args.bounds.now d)
      (get_or_default c.args.dependencies.now c.loop-k.k _ _ c.loop-k-test.true) (c.if-not-is_dependency_kept.ensures refl));
}
