use Rattle.std.proofs.Common.{◌∙◌}
use Rattle.model_answer.proofs.Asked.{chained_so}
use Rattle.model_answer.proofs.judged.judge_by.Goals as goal

pub judge-requires-clause-chained : goal.judge-requires-clause-chained
judge-requires-clause-chained g c = chained_so c.args.model c.deref.result.now (c.deref.ensures.value ∙ c.in_ok-rules.ensures)
