use Rattle.std.proofs.Common.{subst, sym}
use Rattle.model_answer.specs.Judged.{TellsObeyed}
use Rattle.model_answer.proofs.Asked.{obeyed}
use Rattle.model_answer.proofs.judged.Verdicts.obeys.Goals as goal

pub returns-clause-told : goal.returns-clause-told
returns-clause-told g c words ops writes t are =
    subst (TellsObeyed ops writes) (sym c.obeys_of.ensures) (obeyed words ops writes c.args.self.now t are)
