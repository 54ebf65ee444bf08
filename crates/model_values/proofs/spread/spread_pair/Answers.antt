use Rattle.model_values.proofs.Concluding.{notes_none}
use Rattle.model_values.proofs.Table.{has_spread}
use Rattle.model_values.proofs.spread.spread_pair.Goals as goal

pub returns-then-not-is_rival : goal.returns-then-not-is_rival
returns-then-not-is_rival c = record {
  spread = has_spread c.args.question.now c.args.level c.args.table.now;
  more = notes_none c.args.level c.args.table.now;
  concluded = λ _ rival. absurd (c.is_rival.ensures.no c.if-not-is_rival.true rival);
}
