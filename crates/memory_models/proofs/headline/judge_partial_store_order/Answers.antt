use Rattle.memory_models.proofs.Headlined.{partial_store_order_chained, word_buffer_verdict}
use Rattle.memory_models.proofs.headline.judge_partial_store_order.Goals as goal

pub judge-requires-clause-chained : goal.judge-requires-clause-chained
judge-requires-clause-chained g c = partial_store_order_chained

pub returns : goal.returns
returns g c = word_buffer_verdict {A = g.row.A.Denot} c.args.words c.args.operations.now c.args.writes.now c.in_ok-judge.field-0 c.requires c.in_ok-judge.ensures
