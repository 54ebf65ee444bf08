use Rattle.std.proofs.Common.{ℕ, refl, sym, subst}
use Rattle.trace_laws.specs.Configs.{IsIn}
use Rattle.trace_watch.proofs.matching.is_left.Goals as goal

pub returns-then-is_alone-clause-no : goal.returns-then-is_alone-clause-no
returns-then-is_alone-clause-no c = λ _ call on may.
    may.left (subst (λ (n : ℕ). IsIn c.args.taken.now n) (sym (c.requires.alone c.if-is_alone.true call on may.may.asks))
    (c.if-not-is_taken.ensures.yes refl))
