use Rattle.std.proofs.Common.{◌≡◌, true, false, refl, sym, ◌∙◌, subst}
use Rattle.trace_answer.specs.Noted.{is_met}
use Rattle.trace_answer.proofs.Holding.{lacking_is, lacking_none, lacking_not}
use Rattle.trace_answer.proofs.closed.is_lacking.Goals as goal

pub returns-in-Some-clause-yes : goal.returns-in-Some-clause-yes
returns-in-Some-clause-yes g c = λ h events i at holds.
    lacking_is c.args.issued.now events c.args.kept.now _ i c.in-Issue.call c.in-Some.second c.args.event c.args.found.now c.in-Issue.is at (sym c.in-Some.ensures)
    (c.if-is_kept.ensures.no refl) holds
    (subst (λ z. is_met c.args.found.now c.in-Some.second.operation.address z ≡ true) c.left_of.ensures (sym c.meets.ensures ∙ h))

pub returns-in-Some-clause-no : goal.returns-in-Some-clause-no
returns-in-Some-clause-no g c = λ h events i at holds k j kept m here. absurd (
    lacking_not c.args.issued.now events c.args.kept.now i c.in-Issue.call c.in-Some.second c.args.event c.args.found.now c.in-Issue.is at (sym c.in-Some.ensures) holds
    (subst (λ z. is_met c.args.found.now c.in-Some.second.operation.address z ≡ false) c.left_of.ensures (sym c.meets.ensures ∙ h)) k j kept m here)

pub returns-in-None-clause-no : goal.returns-in-None-clause-no
returns-in-None-clause-no g c = λ h events i at holds k j kept m here. absurd (
    lacking_none c.args.issued.now events i c.in-Issue.call c.args.event k j c.in-Issue.is at (sym c.in-None.ensures) m here)
