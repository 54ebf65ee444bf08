use Rattle.std.proofs.Common.{◌∙◌}
use Rattle.model_answer.proofs.Asked.{chained_so}
use Rattle.model_answer.proofs.cited.places_by_rules.Goals as goal

pub short_cycle-requires-clause-chained : goal.short_cycle-requires-clause-chained
short_cycle-requires-clause-chained g c = chained_so c.args.model c.deref.result.now (c.deref.ensures.value ∙ c.in_ok-rules.ensures)
