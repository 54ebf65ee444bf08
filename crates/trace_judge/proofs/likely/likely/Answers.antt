use Rattle.trace_judge.proofs.likely.likely.Goals as goal

pub returns : goal.returns
returns g c = c.in_ok-answer_rest.ensures c.args.events.now c.args.events.now c.in_ok-other.ensures
