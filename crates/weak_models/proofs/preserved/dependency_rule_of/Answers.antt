use Rattle.std.proofs.Common.{◌∙◌, sym}
use Rattle.std.proofs.lemmas.Bool.{true≢false}
use Rattle.weak_models.proofs.Kept.{no_dependency}
use Rattle.weak_models.proofs.preserved.dependency_rule_of.Goals as goal

pub returns-then-not-is_write : goal.returns-then-not-is_write
returns-then-not-is_write c =
    let none = sym c.is_write.ensures ∙ c.if-not-is_write.true in
    λ notes. no_dependency notes c.args.dependencies.now c.args.operations.now c.args.writes.now c.args.x c.args.y
    (c.depends_within.ensures.no c.if-depends_within.false) (c.depends_within-2.ensures.no c.if-depends_within-2.false)
    (c.is_through_store.ensures.no c.if-is_through_store.false) (λ b. true≢false (sym b.store ∙ none)) (λ b. true≢false (sym b.store ∙ none))

pub returns : goal.returns
returns c = λ notes. no_dependency notes c.args.dependencies.now c.args.operations.now c.args.writes.now c.args.x c.args.y
    (c.depends_within.ensures.no c.if-depends_within.false) (c.depends_within-2.ensures.no c.if-depends_within-2.false)
    (c.is_through_store.ensures.no c.if-is_through_store.false) (λ b. c.depends_within-3.ensures.no c.if-depends_within-3.false b.depends)
    (λ b. c.depends_within-4.ensures.no c.if-depends_within-4.false b.depends)
