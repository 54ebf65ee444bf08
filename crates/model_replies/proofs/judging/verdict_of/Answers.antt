use Rattle.std.proofs.Common.{◌∙◌}
use Rattle.model_answer.proofs.Asked.{chained_so}
use Rattle.model_replies.proofs.judging.verdict_of.Goals as goal

pub judge_valued-requires : goal.judge_valued-requires
judge_valued-requires g c = record {
  chained = chained_so c.args.model c.deref.result.now (c.deref.ensures.value ∙ c.in-Ok.ensures);
  sources = c.requires;
}
