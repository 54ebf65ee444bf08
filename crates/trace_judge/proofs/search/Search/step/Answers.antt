use Rattle.std.proofs.Common.{Some, ◌∙◌, ap}
use Rattle.std.proofs.lemmas.Option.{slice_get-get_or}
use Rattle.std.proofs.lemmas.Result.{err_from_is_err_and}
use Rattle.trace_laws.specs.declared.event.Event.{Event}
use Rattle.trace_judge.proofs.search.Search.step.Goals as goal

pub returns-in_err-issue-in-Issue-clause-full : goal.returns-in_err-issue-in-Issue-clause-full
returns-in_err-issue-in-Issue-clause-full g c =
    let p = err_from_is_err_and c.from_residual.result c.from_residual.ensures.1 in
    rw (p.1, p.2) (c.in_err-issue-in-Issue.ensures.full c.args.bound)

pub answer-requires-clause-answered : goal.answer-requires-clause-answered
answer-requires-clause-answered g c =
    slice_get-get_or c.args.events.now c.args.k _ c.requires.inside ∙ ap (λ (e : Event). Some e) c.in-Answer.is
