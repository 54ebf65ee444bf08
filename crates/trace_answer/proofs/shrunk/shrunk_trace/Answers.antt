use Rattle.std.proofs.Common.{◌≡◌, ◌∙◌, ◌+◌, ℕ, ap, length, subst}
use Rattle.std.proofs.lemmas.Option.{MatchOption-at_some}
use Rattle.trace_answer.specs.Parts.{IsBrokenAt, part_of}
use Rattle.trace_answer.specs.Written.{openings, part_text}
use Rattle.trace_answer.proofs.shrunk.shrunk_trace.Goals as goal

pub returns : goal.returns
returns g c =
    let long : c.len.result ≡ length (openings c.args.trace.now c.in-Some.part.kept.items) =
    c.len.ensures ∙ (c.in_ok-named.named.ok.0 ∙ (ap length c.in_ok-named.ensures ∙ ap (λ k. length (openings c.args.trace.now k)) c.deref-2.ensures.value)) in
    record {
      small = MatchOption-at_some {o = c.in_ok-part.field-0} _ _ c.in-Some.part c.in-Some.is c.in_ok-part.ensures;
      text = c.in_ok-text.ensures ∙ ap (part_text c.args.trace.now) c.deref-3.ensures.value;
      event = c.in_ok-event.event;
      broken = subst (λ k. IsBrokenAt (part_of c.args.trace.now k) c.args.bound c.in_ok-event.event) c.deref.ensures.value c.in_ok-event.ensures;
      line = c.in_ok-line.ensures ∙ ap (λ (n : ℕ). 3 + n + c.in_ok-event.event) long;
    }
