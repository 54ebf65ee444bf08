use Rattle.std.specs.Prelude.{◌≡◌, true, false, IfOk, IfErr}
use Rattle.std.proofs.Common.{subst}
use Rattle.trace_text.specs.Allowed.{IsAllowed, trace_answered_so}
use Rattle.trace_text.specs.Findings.{IsUnfound}
use Rattle.trace_text.specs.Traced.{TraceSpec, opening_of}
use Rattle.trace_text.proofs.text.TraceText.allows.Goals as goal

pub returns-clause-yes : goal.returns-clause-yes
returns-clause-yes g c =
    subst
    (λ (t : TraceSpec). IfOk c.allows.result (λ b. b ≡ true → IsAllowed (opening_of t) t.events c.args.event c.args.id c.args.reply))
    c.self.view_is c.allows.ensures.yes

pub returns-clause-no : goal.returns-clause-no
returns-clause-no g c =
    subst
    (λ (t : TraceSpec). IfOk c.allows.result (λ b. b ≡ false → IsAllowed (opening_of t) t.events c.args.event c.args.id c.args.reply → ⊥))
    c.self.view_is c.allows.ensures.no

pub returns-clause-unfound : goal.returns-clause-unfound
returns-clause-unfound g c =
    subst (λ (t : TraceSpec). IfErr c.allows.result (IsUnfound (trace_answered_so t c.args.event c.args.id c.args.reply) c.args.bound))
    c.self.view_is
    c.allows.ensures.unfound
