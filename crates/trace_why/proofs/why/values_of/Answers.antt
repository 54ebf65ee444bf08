use Rattle.std.proofs.Common.{ℕ, List, sym, subst}
use Rattle.std.specs.Prelude.{Contains}
use Rattle.std.proofs.lemmas.Result.{err_from_is_err_and}
use Rattle.trace_why.specs.declared.untold.Untold.{Untold}
use Rattle.trace_why.specs.Why.{IsUntold}
use Rattle.trace_why.proofs.why.values_of.Goals as goal

pub allowed-requires : goal.allowed-requires
allowed-requires g c = (c.requires.answered.0, c.requires.answered.1.answer)

pub returns-clause-exact : goal.returns-clause-exact
returns-clause-exact g c = λ v. (
  λ h. ((c.in_ok-values.ensures.exact v).0 ((c.sort.ensures.same v).0 h)).1,
  λ is. (c.sort.ensures.same v).1 ((c.in_ok-values.ensures.exact v).1 (
    subst (λ (xs : List ℕ). Contains xs v) (sym c.deref.ensures.value) (c.in_ok-tried.ensures.all v is),
    is,
  )),
)

pub returns-in_err-tried-clause-untold : goal.returns-in_err-tried-clause-untold
returns-in_err-tried-clause-untold g c =
    let p = err_from_is_err_and c.from_residual.result c.from_residual.ensures.1 in
    rw p.1 (subst (λ (e : Untold). IsUntold c.args.trace.now c.args.event c.args.tries c.args.bound e) (sym p.2)
    (c.in_err-tried.ensures.untold c.args.bound))

pub returns-in_err-values-clause-untold : goal.returns-in_err-values-clause-untold
returns-in_err-values-clause-untold g c =
    let p = err_from_is_err_and c.from_residual-in_err-values.result c.from_residual-in_err-values.ensures.1 in
    rw p.1 (subst (λ (e : Untold). IsUntold c.args.trace.now c.args.event c.args.tries c.args.bound e) (sym p.2)
    (c.in_err-values.ensures.untold c.args.tries))
