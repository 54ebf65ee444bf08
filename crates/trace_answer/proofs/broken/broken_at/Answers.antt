use Rattle.std.proofs.Common.{◌∙◌, ap}
use Rattle.trace_answer.specs.Kept.{kept_events}
use Rattle.trace_answer.specs.Parts.{part_of}
use Rattle.trace_answer.proofs.Breaking.{broken_over, none_over}
use Rattle.trace_answer.proofs.Judging.{part_over, trace_over}
use Rattle.trace_answer.proofs.broken.broken_at.Goals as goal

pub bad_event-requires-clause-trace : goal.bad_event-requires-clause-trace
bad_event-requires-clause-trace g c =
    trace_over c.args.kept.now c.in_ok-over.over.opening.items c.deref-2.result.now c.in_ok-over.over.events.items c.deref-3.result.now c.in_ok-over.ensures.trace
    c.deref-2.ensures.value (c.deref-3.ensures.value ∙ (c.in_ok-events.ensures ∙ ap (kept_events c.args.kept.now) c.deref.ensures.value))

pub bad_event-requires-clause-none : goal.bad_event-requires-clause-none
bad_event-requires-clause-none g c =
    let r = part_over c.args.trace.now c.args.kept.now c.in_ok-over.over.opening.items c.deref-2.result.now c.in_ok-over.over.events.items c.deref-3.result.now c.in_ok-over.ensures.same
    c.deref-2.ensures.value (c.deref-3.ensures.value ∙ (c.in_ok-events.ensures ∙ ap (kept_events c.args.kept.now) c.deref.ensures.value)) in
    none_over (part_of c.args.trace.now c.args.kept.now) c.deref-2.result.now c.deref-3.result.now r c.requires

pub returns : goal.returns
returns g c =
    let r = part_over c.args.trace.now c.args.kept.now c.in_ok-over.over.opening.items c.deref-2.result.now c.in_ok-over.over.events.items c.deref-3.result.now c.in_ok-over.ensures.same
    c.deref-2.ensures.value (c.deref-3.ensures.value ∙ (c.in_ok-events.ensures ∙ ap (kept_events c.args.kept.now) c.deref.ensures.value)) in
    broken_over (part_of c.args.trace.now c.args.kept.now) c.deref-2.result.now c.deref-3.result.now c.args.bound c.in_ok-event.event r c.in_ok-event.ensures
