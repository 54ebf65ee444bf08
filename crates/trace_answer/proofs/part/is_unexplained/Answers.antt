use Rattle.std.proofs.Common.{◌≡◌, inl, inr, true, false, sym, ◌∙◌}
use Rattle.std.proofs.lemmas.Result.{IfOk-weaker}
use Rattle.trace_answer.proofs.Judging.{none_decided, some_decided, unshown_by}
use Rattle.trace_answer.proofs.part.is_unexplained.Goals as goal

pub returns-in-Ok-clause-yes : goal.returns-in-Ok-clause-yes
returns-in-Ok-clause-yes g c = λ h. none_decided c.in-Ok.order c.is_none.result _ _ c.is_none.ensures c.in-Ok.ensures.decided h

pub returns-in-Ok-clause-no : goal.returns-in-Ok-clause-no
returns-in-Ok-clause-no g c = λ h. let f = some_decided c.in-Ok.order c.is_none.result _ _ c.is_none.ensures c.in-Ok.ensures.decided h in inl (_, f.1)

pub returns-in-Err-clause-yes : goal.returns-in-Err-clause-yes
returns-in-Err-clause-yes g c = IfOk-weaker c.stands_for.result _ _ (λ b s h. absurd (let n : false ≡ true = sym s.0 ∙ h in cc)) c.stands_for.ensures

pub returns-in-Err-clause-no : goal.returns-in-Err-clause-no
returns-in-Err-clause-no g c = IfOk-weaker c.stands_for.result _ _
    (λ b s h. inr (unshown_by c.args.opening.now c.args.events.now c.args.bound c.in-Err.why s.1 c.in-Err.ensures.undecided c.in-Err.ensures.full)) c.stands_for.ensures
