use Rattle.std.proofs.Common.{ℕ, List, IfOk, sym, subst}
use Rattle.trace_laws.specs.declared.event.Event.{Event}
use Rattle.trace_watch.specs.Follows.{AnswersFew, Tracks, TellsSeen}
use Rattle.trace_watch.proofs.watch.Watch.event.Goals as goal

pub returns-in-Issue-clause-seen : goal.returns-in-Issue-clause-seen
returns-in-Issue-clause-seen g c = subst
    (λ (e : Event). IfOk c.issue.result (λ seen. (opening : List ℕ) (trace : List Event)
    → Tracks opening trace c.args.self.now → TellsSeen opening trace e c.issue.new.self seen))
    (sym c.in-Issue.is) c.issue.ensures.seen

pub returns-in-Answer-clause-seen : goal.returns-in-Answer-clause-seen
returns-in-Answer-clause-seen g c = subst
    (λ (e : Event). IfOk c.answer.result (λ seen. (opening : List ℕ) (trace : List Event)
    → Tracks opening trace c.args.self.now → TellsSeen opening trace e c.answer.new.self seen))
    (sym c.in-Answer.is) c.answer.ensures.seen

pub returns-in-Answer-clause-few : goal.returns-in-Answer-clause-few
returns-in-Answer-clause-few g c = subst
    (λ (e : Event). IfOk c.answer.result (λ seen. (opening : List ℕ) (trace : List Event)
    → Tracks opening trace c.args.self.now → AnswersFew trace e c.args.bound c.args.self.now))
    (sym c.in-Answer.is) c.answer.ensures.few
