use Rattle.std.proofs.Common.{inl, sym, subst}
use Rattle.trace_answer.specs.Leaving.{IsClosedPart}
use Rattle.trace_answer.proofs.part.is_breaking.Goals as goal

pub returns-then-not-branch-clause-no : goal.returns-then-not-branch-clause-no
returns-then-not-branch-clause-no g c = λ e. inl (λ closed. c.in_ok-is_closed.ensures.no c.if-not-branch.true
    (subst (λ z. IsClosedPart z c.events.result.now c.args.kept.now) (sym c.issued.ensures)
    (subst (λ z. IsClosedPart c.args.trace.now.issued z c.args.kept.now) (sym c.events.ensures.value) closed)))

pub returns-clause-yes : goal.returns-clause-yes
returns-clause-yes g c = λ h. record {
  closed = subst (λ z. IsClosedPart z c.args.trace.now.events c.args.kept.now) c.issued.ensures
      (subst (λ z. IsClosedPart c.issued.result.now z c.args.kept.now) c.events.ensures.value
      (c.in_ok-is_closed.ensures.yes c.if-not-branch.false));
  none = c.in_ok-is_broken.ensures.yes h;
}
