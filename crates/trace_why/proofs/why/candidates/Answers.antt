use Rattle.std.proofs.Common.{◌≤◌, ℕ, List, length, sym, subst, arith}
use Rattle.trace_laws.specs.declared.event.Event.{Event}
use Rattle.trace_laws.specs.declared.event.Event.TheVariants.{Answer}
use Rattle.trace_laws.specs.Traces.{IsTrace}
use Rattle.trace_laws.proofs.Lists.{get_within}
use Rattle.trace_text.specs.Traced.{opening_of}
use Rattle.trace_text.proofs.Opening.{length-opening}
use Rattle.trace_why.specs.Values.{AreLeftBetween, IsReachedIn}
use Rattle.trace_why.proofs.Reaching.{allowed_reached, start_kept}
use Rattle.trace_why.proofs.Trying.{IsOrLeft, before_tried, reached_tried, or_left_before, tried_untold}
use Rattle.std.proofs.lemmas.Result.{err_from_is_err_and}
use Rattle.trace_why.specs.declared.untold.Untold.{Untold}
use Rattle.trace_why.specs.Why.{IsUntold}
use Rattle.trace_why.proofs.why.candidates.Goals as goal

pub add_answers-requires-clause-inside : goal.add_answers-requires-clause-inside
add_answers-requires-clause-inside g c =
    let on = c.requires.answered.1 in
    let low = get_within c.args.trace.now.events c.args.event (Answer c.args.issue.call.id c.requires.answered.0) on.answer in
    subst (λ (es : List Event). c.args.event ≤ length es) (sym c.events-events.ensures.value) (omega arith)

pub returns-clause-all : goal.returns-clause-all
returns-clause-all g c = λ v is.
    let t : IsTrace (length (opening_of c.args.trace.now)) c.args.trace.now.events =
    subst (λ (n : ℕ). IsTrace n c.args.trace.now.events) (sym (length-opening c.args.trace.now)) c.events-events.ensures.trace in
    let w : ℕ = c.args.issue.call.operation.address in
    let left : AreLeftBetween c.args.trace.now.events c.in_ok-from.from c.args.event w c.add_answers.new.values.items =
    subst (λ (es : List Event). AreLeftBetween es c.in_ok-from.from c.args.event w c.add_answers.new.values.items) c.events-events.ensures.value
    c.in_ok-add_answers.ensures.all in
    c.in_ok-reach.ensures.all v
    (allowed_reached (opening_of c.args.trace.now) c.args.trace.now.events c.args.event v c.args.issue c.in_ok-from.from c.add_answers.new.values.items
    c.args.pending.now t c.requires.answered.0 c.requires.answered.1
    (start_kept (opening_of c.args.trace.now) c.args.trace.now.events w c.args.issue.event c.in_ok-from.values.items c.add_answers.new.values.items
    c.in_ok-from.from c.in_ok-add_answers.ensures.kept c.in_ok-from.ensures.start) left c.requires.pending is)

pub returns-in_err-add_answers-clause-untold : goal.returns-in_err-add_answers-clause-untold
returns-in_err-add_answers-clause-untold g c = λ most.
    let w : ℕ = c.args.issue.call.operation.address in
    let opening : List ℕ = opening_of c.args.trace.now in
    let p = err_from_is_err_and c.from_residual-in_err-add_answers.result c.from_residual-in_err-add_answers.ensures.1 in
    rw p.1 (subst (λ (e : Untold). IsUntold c.args.trace.now c.args.event c.args.tries most e) (sym p.2)
    (tried_untold c.args.trace.now c.args.event c.args.tries most c.args.issue (IsOrLeft c.events-events.result.now c.args.event w c.in_ok-from.values.items)
    c.requires.answered
    (λ v h. before_tried opening c.args.trace.now.events c.args.event w c.args.pending.now c.requires.pending v
    (or_left_before opening c.events-events.result.now c.args.trace.now.events c.args.event w c.in_ok-from.values.items c.events-events.ensures.value
    c.in_ok-from.ensures.only.each v h))
    _ c.in_err-add_answers.ensures.untold))

pub returns-in_err-reach-clause-untold : goal.returns-in_err-reach-clause-untold
returns-in_err-reach-clause-untold g c = λ most.
    let w : ℕ = c.args.issue.call.operation.address in
    let opening : List ℕ = opening_of c.args.trace.now in
    let p = err_from_is_err_and c.from_residual-in_err-reach.result c.from_residual-in_err-reach.ensures.1 in
    rw p.1 (subst (λ (e : Untold). IsUntold c.args.trace.now c.args.event c.args.tries most e) (sym p.2)
    (tried_untold c.args.trace.now c.args.event c.args.tries most c.args.issue
    (IsReachedIn c.add_answers.new.values.items c.args.pending.now (length c.args.pending.now)) c.requires.answered
    (λ v h. reached_tried opening c.args.trace.now.events c.args.event w c.add_answers.new.values.items c.args.pending.now c.requires.pending
    (λ u k. or_left_before opening c.events-events.result.now c.args.trace.now.events c.args.event w c.in_ok-from.values.items
    c.events-events.ensures.value c.in_ok-from.ensures.only.each u (c.in_ok-add_answers.ensures.only.each u k))
    (length c.args.pending.now) v (omega arith) h)
    _ c.in_err-reach.ensures.untold))
