use Rattle.std.proofs.Common.{List, refl, ◌∙◌, ap, subst, arith, slice_get}
use Rattle.std.proofs.lemmas.Option.{MatchOption-at_none}
use Rattle.std.proofs.lemmas.Result.{err_from_is_err_and}
use Rattle.trace_laws.specs.declared.event.Call.{Call}
use Rattle.trace_laws.specs.Configs.{IsIn}
use Rattle.trace_watch.proofs.Crowding.{calls_read, over_read, full_told, answers_many}
use Rattle.trace_watch.proofs.Few.{answers_few, far_few, few_read, none_few}
use Rattle.trace_watch.proofs.Watching.{seen_not_pending, seen_no_word}
use Rattle.trace_watch.proofs.Answering.{is_read, answer_yes, answer_no}
use Rattle.trace_watch.proofs.watch.Watch.answer.Goals as goal

pub returns-in_default-clause-seen : goal.returns-in_default-clause-seen
returns-in_default-clause-seen g c = λ opening trace f.
    seen_not_pending opening trace c.args.self.now c.args.id c.args.reply
    (λ k call h. (MatchOption-at_none {o = c.call_of.result} _ _ c.in_default.is c.call_of.ensures) k call
    (ap (λ (cs : List Call). slice_get cs k) c.deref.ensures.value ∙ h)) f

pub returns-then-word-len-clause-seen : goal.returns-then-word-len-clause-seen
returns-then-word-len-clause-seen g c = λ opening trace f.
    let far = c.if-word-len.true in
    let long = c.len.ensures in
    seen_no_word opening trace c.args.self.now c.in-Some.call c.args.id c.args.reply
    (subst (λ (cs : List Call). IsIn cs c.in-Some.call) c.deref.ensures.value c.in-Some.ensures.0) (omega arith) f

pub returns-in_err-later-clause-full : goal.returns-in_err-later-clause-full
returns-in_err-later-clause-full g c =
    let p = err_from_is_err_and c.from_residual-in_err-later.result c.from_residual-in_err-later.ensures.1 in
    let near = c.if-word-len.false in
    let long = c.len.ensures in
    rw (p.1, p.2) (λ opening trace f.
    full_told opening trace c.args.id c.args.reply c.args.bound _ (λ e.
    answers_many opening trace c.args.self.now c.in-Some.call c.args.id c.args.reply c.args.bound c.in_ok-calls.calls.items
    (subst (λ (cs : List Call). IsIn cs c.in-Some.call) c.deref.ensures.value c.in-Some.ensures.0) c.in-Some.ensures.1
    (calls_read c.args.self.now c.in-Some.call c.deref-2.result.now c.in_ok-calls.calls.items c.deref-2.ensures.value
    c.in_ok-calls.ensures)
    (over_read c.args.self.now c.in-Some.call c.args.bound c.in_ok-calls.calls.items c.deref-4.result.now
    c.index.result.now c.deref-3.result.now c.deref-4.ensures.value c.deref-3.ensures.value c.index.ensures (omega arith)
    (c.in_err-later.ensures.full e)) f))

pub returns-then-is_empty-clause-seen : goal.returns-then-is_empty-clause-seen
returns-then-is_empty-clause-seen g c = λ opening trace f.
    let near = c.if-word-len.false in
    let long = c.len.ensures in
    answer_no opening trace c.args.self.now c.in-Some.call c.args.id c.args.reply c.in_ok-calls.calls.items
    c.in_ok-later.later
    (is_read c.args.self.now c.in-Some.call c.args.id c.args.reply c.deref.result.now c.deref-2.result.now
    c.in_ok-calls.calls.items c.deref-4.result.now c.index.result.now c.deref-3.result.now _ c.deref.ensures.value
    c.deref-2.ensures.value c.deref-4.ensures.value c.deref-3.ensures.value c.index.ensures (omega arith)
    c.in-Some.ensures c.in_ok-calls.ensures c.in_ok-later.ensures.answered)
    c.if-is_empty.ensures f

pub returns-clause-seen : goal.returns-clause-seen
returns-clause-seen g c = λ opening trace f.
    let near = c.if-word-len.false in
    let long = c.len.ensures in
    answer_yes opening trace c.args.self.now c.in-Some.call c.args.id c.args.reply c.in_ok-calls.calls.items
    c.deref-5.result.now c.in_ok-later.later _ c.in_ok-self.field-0
    (is_read c.args.self.now c.in-Some.call c.args.id c.args.reply c.deref.result.now c.deref-2.result.now
    c.in_ok-calls.calls.items c.deref-4.result.now c.index.result.now c.deref-3.result.now _ c.deref.ensures.value
    c.deref-2.ensures.value c.deref-4.ensures.value c.deref-3.ensures.value c.index.ensures (omega arith)
    c.in-Some.ensures c.in_ok-calls.ensures c.in_ok-later.ensures.answered)
    c.if-is_empty.ensures c.deref-5.ensures.value c.in_ok-self.ensures refl f

pub returns-then-word-len-clause-few : goal.returns-then-word-len-clause-few
returns-then-word-len-clause-few g c = λ opening trace f.
    let far = c.if-word-len.true in
    let long = c.len.ensures in
    far_few opening trace c.args.self.now c.in-Some.call c.args.id c.args.reply c.args.bound
    (subst (λ (cs : List Call). IsIn cs c.in-Some.call) c.deref.ensures.value c.in-Some.ensures.0) (omega arith) f

pub returns-then-is_empty-clause-few : goal.returns-then-is_empty-clause-few
returns-then-is_empty-clause-few g c = λ opening trace f.
    let near = c.if-word-len.false in
    let long = c.len.ensures in
    answers_few opening trace c.args.self.now c.in-Some.call c.args.id c.args.reply c.args.bound c.in_ok-calls.calls.items
    (subst (λ (cs : List Call). IsIn cs c.in-Some.call) c.deref.ensures.value c.in-Some.ensures.0) c.in-Some.ensures.1
    (calls_read c.args.self.now c.in-Some.call c.deref-2.result.now c.in_ok-calls.calls.items c.deref-2.ensures.value
    c.in_ok-calls.ensures)
    (few_read c.args.self.now c.in-Some.call c.in-Some.call.id c.args.bound c.in_ok-calls.calls.items c.deref-4.result.now
    c.index.result.now c.deref-3.result.now c.deref-4.ensures.value c.deref-3.ensures.value c.index.ensures (omega arith)
    c.in_ok-later.ensures.few) f

pub returns-clause-few : goal.returns-clause-few
returns-clause-few g c = λ opening trace f.
    let near = c.if-word-len.false in
    let long = c.len.ensures in
    answers_few opening trace c.args.self.now c.in-Some.call c.args.id c.args.reply c.args.bound c.in_ok-calls.calls.items
    (subst (λ (cs : List Call). IsIn cs c.in-Some.call) c.deref.ensures.value c.in-Some.ensures.0) c.in-Some.ensures.1
    (calls_read c.args.self.now c.in-Some.call c.deref-2.result.now c.in_ok-calls.calls.items c.deref-2.ensures.value
    c.in_ok-calls.ensures)
    (few_read c.args.self.now c.in-Some.call c.in-Some.call.id c.args.bound c.in_ok-calls.calls.items c.deref-4.result.now
    c.index.result.now c.deref-3.result.now c.deref-4.ensures.value c.deref-3.ensures.value c.index.ensures (omega arith)
    c.in_ok-later.ensures.few) f

pub returns-in_default-clause-few : goal.returns-in_default-clause-few
returns-in_default-clause-few g c = λ opening trace f.
    none_few opening trace c.args.self.now c.args.id c.args.reply c.args.bound
    (λ k call h. (MatchOption-at_none {o = c.call_of.result} _ _ c.in_default.is c.call_of.ensures) k call
    (ap (λ (cs : List Call). slice_get cs k) c.deref.ensures.value ∙ h)) f
