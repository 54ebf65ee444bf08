use Rattle.std.proofs.lemmas.Result.{err_from_is_err_and}
use Rattle.trace_watch.specs.States.{configs_of}
use Rattle.trace_watch.proofs.Few.{few_read_found}
use Rattle.trace_watch.proofs.Gathering.{answered_by, over_others}
use Rattle.trace_watch.proofs.releasing.gathered.Goals as goal

pub returns-clause-answered : goal.returns-clause-answered
returns-clause-answered g c =
    answered_by c.args.call c.args.reply c.args.calls.now c.in_ok-others.others.items c.in_ok-newest.newest.items
    c.deref.result.now c.deref-4.result.now c.deref-8.result.now c.deref-9.result.now c.deref-5.result.now
    c.args.states.now c.in_ok-found.found.items c.deref-7.result.now c.new-kept.result.items c.takes.new.kept.items
    c.claims.new.kept.items
    c.deref.ensures.value c.deref-4.ensures.value c.deref-8.ensures.value c.deref-9.ensures.value c.deref-5.ensures.value
    c.deref-7.ensures.value c.new-kept.ensures.items c.in_ok-others.ensures c.in_ok-newest.ensures
    c.in_ok-found.ensures.closes c.in_ok-takes.ensures.gathers c.in_ok-claims.ensures.gathers

pub returns-clause-few : goal.returns-clause-few
returns-clause-few g c =
    few_read_found c.args.call.id c.args.calls.now c.in_ok-others.others.items c.in_ok-newest.newest.items
    c.deref.result.now c.deref-4.result.now c.deref-5.result.now c.args.bound c.args.states.now
    c.in_ok-found.found.items c.deref.ensures.value c.deref-4.ensures.value c.deref-5.ensures.value
    c.in_ok-others.ensures c.in_ok-newest.ensures c.in_ok-found.ensures.few c.in_ok-found.ensures.closes

pub returns-in_err-found-clause-full : goal.returns-in_err-found-clause-full
returns-in_err-found-clause-full g c =
    let p = err_from_is_err_and c.from_residual-in_err-found.result c.from_residual-in_err-found.ensures.1 in
    rw (p.1, p.2) (λ e.
    over_others c.args.call c.args.calls.now c.in_ok-others.others.items c.in_ok-newest.newest.items
    c.deref.result.now c.deref-4.result.now c.deref-5.result.now c.args.bound (configs_of c.args.states.now)
    c.deref.ensures.value c.deref-4.ensures.value c.deref-5.ensures.value c.in_ok-others.ensures c.in_ok-newest.ensures
    (c.in_err-found.ensures.full e))
