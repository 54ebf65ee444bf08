use Rattle.model_values.proofs.Forcing.{with_its_own}
use Rattle.model_values.proofs.decided.decided.Goals as goal

pub returns-then-branch : goal.returns-then-branch
returns-then-branch g c nodes turn order = c.in_ok-is_refuted.ensures c.if-branch.true turn (with_its_own c.args.question.now turn order)
