use Rattle.std.proofs.Common.{subst, sym}
use Rattle.std.proofs.lemmas.Result.{err_from_is_err_and}
use Rattle.std.proofs.lemmas.Option.{MatchOption-at_none, MatchOption-at_some}
use Rattle.trace_judge.specs.Stops.{IsUndecided, TellsMany}
use Rattle.trace_judge.specs.declared.undecided.Undecided.{Undecided}
use Rattle.trace_judge.proofs.judge.judge.Goals as goal

pub first_bad_either_way-requires-clause-none : goal.first_bad_either_way-requires-clause-none
first_bad_either_way-requires-clause-none g c =
    MatchOption-at_none {o = c.in_ok-order.field-0} _ _ c.in_default.is c.in_ok-order.ensures.decided

pub first_bad_either_way-requires-clause-good : goal.first_bad_either_way-requires-clause-good
first_bad_either_way-requires-clause-good g c = c.in_ok-order.ensures.ended c.in_default.is

pub returns-in_err-order-clause-unjudged : goal.returns-in_err-order-clause-unjudged
returns-in_err-order-clause-unjudged g c =
    let p = err_from_is_err_and c.from_residual.result c.from_residual.ensures.1 in
    rw p.1 (subst (λ (e : Undecided). IsUndecided c.args.events.now e) (sym p.2) c.in_err-order.ensures.undecided)

pub returns-in_err-order-clause-full : goal.returns-in_err-order-clause-full
returns-in_err-order-clause-full g c =
    let p = err_from_is_err_and c.from_residual.result c.from_residual.ensures.1 in
    rw p.1 (subst (λ (e : Undecided). TellsMany c.args.opening.now c.args.events.now c.args.bound e) (sym p.2) c.in_err-order.ensures.full)

pub returns-in_err-order-clause-judged : goal.returns-in_err-order-clause-judged
returns-in_err-order-clause-judged g c =
    let p = err_from_is_err_and c.from_residual.result c.from_residual.ensures.1 in
    rw p.1 tt

pub returns-in-Some-clause-judged : goal.returns-in-Some-clause-judged
returns-in-Some-clause-judged g c = MatchOption-at_some {o = c.in_ok-order.field-0} _ _ c.in-Some.order c.in-Some.is c.in_ok-order.ensures.decided
