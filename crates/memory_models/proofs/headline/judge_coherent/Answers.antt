use Rattle.memory_models.proofs.Headlined.{word_verdict}
use Rattle.memory_models.proofs.headline.judge_coherent.Goals as goal

pub returns : goal.returns
returns g c = word_verdict {A = g.row.A.Denot} c.args.words c.args.operations.now c.args.writes.now c.in_ok-judge.field-0 c.requires c.in_ok-judge.ensures
