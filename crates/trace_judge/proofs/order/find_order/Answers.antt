use Rattle.std.proofs.Common.{sym, subst}
use Rattle.std.proofs.lemmas.Option.{MatchOption-at_none, MatchOption-at_some}
use Rattle.std.proofs.lemmas.Result.{err_from_is_err_and}
use Rattle.trace_judge.specs.Stops.{IsUndecided, TellsMany}
use Rattle.trace_judge.specs.declared.undecided.Undecided.{Undecided}
use Rattle.trace_judge.proofs.order.find_order.Goals as goal

pub run-requires-clause-trace : goal.run-requires-clause-trace
run-requires-clause-trace g c = c.requires.trace

pub run-requires-clause-beginning : goal.run-requires-clause-beginning
run-requires-clause-beginning g c = c.requires.beginning

pub returns-in_err-search-clause-undecided : goal.returns-in_err-search-clause-undecided
returns-in_err-search-clause-undecided g c =
    let p = err_from_is_err_and c.from_residual.result c.from_residual.ensures.1 in
    rw p.1 (subst (λ (e : Undecided). IsUndecided c.args.whole.now e) (sym p.2) c.in_err-search.ensures.undecided)

pub returns-in_err-search-clause-full : goal.returns-in_err-search-clause-full
returns-in_err-search-clause-full g c =
    let p = err_from_is_err_and c.from_residual.result c.from_residual.ensures.1 in
    rw p.1 (subst (λ (e : Undecided). TellsMany c.args.opening.now c.args.whole.now c.args.bound e) (sym p.2) c.in_err-search.ensures.full)

pub returns-in_err-search-clause-ended : goal.returns-in_err-search-clause-ended
returns-in_err-search-clause-ended g c =
    let p = err_from_is_err_and c.from_residual.result c.from_residual.ensures.1 in
    rw p.1 tt

pub returns-in_err-search-clause-decided : goal.returns-in_err-search-clause-decided
returns-in_err-search-clause-decided g c =
    let p = err_from_is_err_and c.from_residual.result c.from_residual.ensures.1 in
    rw p.1 tt

pub returns-in_default-clause-ended : goal.returns-in_default-clause-ended
returns-in_default-clause-ended g c = λ e. c.in_ok-search.ensures.ended c.in_default.is

pub returns-in_default-clause-decided : goal.returns-in_default-clause-decided
returns-in_default-clause-decided g c = MatchOption-at_none {o = c.in_ok-search.field-0} _ _ c.in_default.is c.in_ok-search.ensures.decided

pub order_found-requires : goal.order_found-requires
order_found-requires g c = MatchOption-at_some {o = c.in_ok-search.field-0} _ _ c.in-Some.search c.in-Some.is c.in_ok-search.ensures.decided

pub returns-in_err-order-clause-undecided : goal.returns-in_err-order-clause-undecided
returns-in_err-order-clause-undecided g c =
    let p = err_from_is_err_and c.from_residual-in_err-order.result c.from_residual-in_err-order.ensures.1 in
    rw (p.1, p.2) tt

pub returns-in_err-order-clause-full : goal.returns-in_err-order-clause-full
returns-in_err-order-clause-full g c =
    let p = err_from_is_err_and c.from_residual-in_err-order.result c.from_residual-in_err-order.ensures.1 in
    rw (p.1, p.2) tt

pub returns-in_err-order-clause-ended : goal.returns-in_err-order-clause-ended
returns-in_err-order-clause-ended g c =
    let p = err_from_is_err_and c.from_residual-in_err-order.result c.from_residual-in_err-order.ensures.1 in
    rw p.1 tt

pub returns-in_err-order-clause-decided : goal.returns-in_err-order-clause-decided
returns-in_err-order-clause-decided g c =
    let p = err_from_is_err_and c.from_residual-in_err-order.result c.from_residual-in_err-order.ensures.1 in
    rw p.1 tt
