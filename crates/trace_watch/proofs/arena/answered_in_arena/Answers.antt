use Rattle.std.proofs.Common.{List, sym, ap, subst, ◌∙◌}
use Rattle.std.proofs.lemmas.Result.{err_from_is_err_and}
use Rattle.trace_watch.specs.declared.state.State.{State}
use Rattle.trace_watch.specs.States.{Config, configs_of}
use Rattle.trace_watch.specs.Closed.{IsAnsweredBy}
use Rattle.trace_watch.proofs.arena.answered_in_arena.Goals as goal

pub returns-clause-answered : goal.returns-clause-answered
returns-clause-answered g c =
    subst (λ (cs : List Config). IsAnsweredBy c.args.call c.args.reply c.args.calls.now (configs_of c.args.states.now) cs)
    (sym (c.in_ok-copies.ensures ∙ ap (λ (ss : List (State _)). configs_of ss) c.deref.ensures.value))
    c.in_ok-kept.ensures.answered

pub returns-in_err-kept-clause-full : goal.returns-in_err-kept-clause-full
returns-in_err-kept-clause-full g c =
    let p = err_from_is_err_and c.from_residual-in_err-kept.result c.from_residual-in_err-kept.ensures.1 in
    rw (p.1, p.2) (λ e. c.in_err-kept.ensures.full e)
