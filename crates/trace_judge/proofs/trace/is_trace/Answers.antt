use Rattle.std.proofs.Common.{◌<◌, Some, length, arith, ◌∙◌, ap, refl}
use Rattle.std.proofs.lemmas.Option.{slice_get-get_or}
use Rattle.trace_laws.specs.declared.event.Event.{Event}
use Rattle.trace_judge.proofs.Checking.{checked_issue, checked_answer, checked_all}
use Rattle.trace_judge.proofs.trace.is_trace.Goals as goal
use Rattle.trace_judge.proofs.trace.is_trace.Goals.{in-Issue+else-call-words+else-not-is_above, in-Answer+else-not-is_open}

pub loop-k-preserved : goal.loop-k-preserved
loop-k-preserved c =
    let l : c.loop-k.k < length c.args.events.now = omega arith in
    elim c.match-events-k.branch [
      | in-Issue+else-call-words+else-not-is_above w ↦ rw w.last-is
          (checked_issue c.args.words c.args.events.now c.loop-k.k c.loop-k.last _
          (slice_get-get_or c.args.events.now c.loop-k.k _ l ∙ ap
          (λ (e : Event). Some e) w.in-Issue.is) w.if-call-words.false
          (w.if-not-is_above.ensures.yes refl) c.loop-k.invariant)
      | in-Answer+else-not-is_open w ↦ rw w.last-is
          (checked_answer c.args.words c.args.events.now c.loop-k.k c.loop-k.last w.in-Answer.id _
          (slice_get-get_or c.args.events.now c.loop-k.k _ l ∙ ap (λ (e : Event). Some e) w.in-Answer.is)
          (w.if-not-is_open.ensures.yes refl)
          c.loop-k.invariant)
    ]

pub returns-clause-yes : goal.returns-clause-yes
returns-clause-yes c = λ e. checked_all c.args.words c.args.events.now c.loop-k.k c.loop-k.last
    (omega arith) c.loop-k.invariant
