use Rattle.std.proofs.Common.{◌≡◌, ◌++◌, ◌∷◌, [], List, refl, subst, arith}
use Rattle.trace_laws.specs.declared.event.Call.{Call}
use Rattle.trace_watch.proofs.Watching.{seen_issue}
use Rattle.trace_watch.proofs.watch.Watch.issue.Goals as goal

pub returns-clause-seen : goal.returns-clause-seen
returns-clause-seen g c = λ opening trace f.
    let far = c.if-call-len.false in
    let long = c.len.ensures in
    seen_issue opening trace c.args.self.now c.args.call c.in_ok-self.field-0 (omega arith)
    (c.if-not-is_above.ensures.yes refl)
    (subst (λ (cs : List Call). c.in_ok-self.field-0.items ≡ cs ++ c.args.call ∷ []) c.deref.ensures.value c.in_ok-self.ensures) f
