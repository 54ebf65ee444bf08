use Rattle.std.proofs.Common.{Bool, List, subst}
use Rattle.model_text.specs.Views.{log_so_far}
use Rattle.model_answer.specs.Parts.{IsExplainedBy, part_of}
use Rattle.model_answer.proofs.smallest.first_kept.Goals as goal

pub returns-then-branch-clause-breaks : goal.returns-then-branch-clause-breaks
returns-then-branch-clause-breaks g c =
    subst (λ (kept : List Bool). IsExplainedBy (part_of (log_so_far c.args.judge.now.log.now) kept) c.args.judge.now.model → ⊥) c.deref-3.ensures.value
    (c.in_ok-is_broken.ensures.yes c.if-branch.true)
