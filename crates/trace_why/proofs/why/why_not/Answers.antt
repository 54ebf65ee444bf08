use Rattle.std.proofs.Common.{◌∙◌, ◌<◌, ℕ, List, Some, length, refl, sym, ap, subst, arith}
use Rattle.std.specs.Prelude.{Contains, ◌↔◌}
use Rattle.std.proofs.lemmas.Option.{slice_get-get_or}
use Rattle.packet.specs.declared.kinds.Reply.TheVariants.{Old}
use Rattle.trace_laws.specs.declared.event.Event.{Event}
use Rattle.trace_laws.specs.Traces.{TraceAnswersAt, TraceIssuesAt}
use Rattle.trace_text.specs.Allowed.{IsAllowed}
use Rattle.trace_text.specs.Traced.{opening_of}
use Rattle.trace_why.specs.Calls.{AreOpenOn}
use Rattle.trace_why.proofs.why.why_not.Goals as goal

pub returns-clause-told : goal.returns-clause-told
returns-clause-told g c =
    let own = c.events-events.ensures.value in
    let l : c.args.event < length c.events-events.result.now = omega arith in
    let at : TraceAnswersAt c.events-events.result.now c.args.event c.in-Answer.id c.in-Answer.reply =
    slice_get-get_or c.events-events.result.now c.args.event _ l ∙ ap (λ (e : Event). Some e) c.in-Answer.is in
    let number = c.in-Some.ensures.2 in
    let id : TraceAnswersAt c.events-events.result.now c.args.event c.in-Some.issue.call.id c.in-Answer.reply =
    subst (λ (n : ℕ). TraceAnswersAt c.events-events.result.now c.args.event n c.in-Answer.reply) (sym number) at in
    let w : ℕ = c.in-Some.issue.call.operation.address in
    record {
      call = c.in-Some.issue;
      number = number;
      answer = record {
        answer = subst (λ (es : List Event). TraceAnswersAt es c.args.event c.in-Some.issue.call.id c.in-Answer.reply) own id;
        issue = subst (λ (es : List Event). TraceIssuesAt es c.in-Some.issue.event c.in-Some.issue.call) own c.in-Some.ensures.1;
        early = c.in-Some.ensures.0;
        here = refl;
      };
      pending = subst (λ (es : List Event). AreOpenOn es c.args.event w c.in_ok-pending.pending.items) own c.in_ok-pending.ensures;
      values = λ v. subst
          (λ (n : ℕ). Contains c.in_ok-values.values.items v ↔ IsAllowed (opening_of c.args.trace.now) c.args.trace.now.events c.args.event n (Old v))
          number (c.in_ok-values.ensures.exact v);
      rising = c.in_ok-values.ensures.rising;
    }
