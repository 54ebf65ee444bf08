use Rattle.weak_models.proofs.judging.judge_any.Goals as goal

pub returns-in-Some : goal.returns-in-Some
returns-in-Some g c = rw c.in-Some.is at c.in_ok-verdict.ensures

pub returns-in-None : goal.returns-in-None
returns-in-None g c = c.judge_by_pairs.ensures
