use Rattle.std.proofs.Common.{◌∙◌, ap}
use Rattle.std.proofs.lemmas.Result.{IfOk-weaker}
use Rattle.trace_answer.specs.Kept.{kept_events}
use Rattle.trace_answer.specs.Parts.{part_of}
use Rattle.trace_answer.proofs.Judging.{part_over, stands_over, trace_over, unexplained}
use Rattle.trace_answer.proofs.part.has_no_order.Goals as goal

pub is_unexplained-requires : goal.is_unexplained-requires
is_unexplained-requires g c =
    trace_over c.args.kept.now c.in_ok-over.over.opening.items c.deref-2.result.now c.in_ok-over.over.events.items c.deref-3.result.now c.in_ok-over.ensures.trace
    c.deref-2.ensures.value (c.deref-3.ensures.value ∙ (c.in_ok-events.ensures ∙ ap (kept_events c.args.kept.now) c.deref.ensures.value))

pub returns-clause-yes : goal.returns-clause-yes
returns-clause-yes g c =
    let r = part_over c.args.trace.now c.args.kept.now c.in_ok-over.over.opening.items c.deref-2.result.now c.in_ok-over.over.events.items c.deref-3.result.now c.in_ok-over.ensures.same
    c.deref-2.ensures.value (c.deref-3.ensures.value ∙ (c.in_ok-events.ensures ∙ ap (kept_events c.args.kept.now) c.deref.ensures.value)) in
    IfOk-weaker c.is_unexplained.result _ _ (λ b none h. unexplained (part_of c.args.trace.now c.args.kept.now) c.deref-2.result.now c.deref-3.result.now r (none h)) c.is_unexplained.ensures.yes

pub returns-clause-no : goal.returns-clause-no
returns-clause-no g c =
    let r = part_over c.args.trace.now c.args.kept.now c.in_ok-over.over.opening.items c.deref-2.result.now c.in_ok-over.over.events.items c.deref-3.result.now c.in_ok-over.ensures.same
    c.deref-2.ensures.value (c.deref-3.ensures.value ∙ (c.in_ok-events.ensures ∙ ap (kept_events c.args.kept.now) c.deref.ensures.value)) in
    IfOk-weaker c.is_unexplained.result _ _ (λ b stands h. stands_over (part_of c.args.trace.now c.args.kept.now) c.deref-2.result.now c.deref-3.result.now c.args.bound r (stands h)) c.is_unexplained.ensures.no
