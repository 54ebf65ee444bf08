use Rattle.model_values.proofs.Forcing.{forced_earlier}
use Rattle.model_values.proofs.forced.is_earlier.Goals as goal

pub returns : goal.returns
returns c so = forced_earlier c.args.question.now c.args.edges.now c.args.x c.args.step.from c.args.step.to
    (c.is_rival.ensures.yes c.if-not-is_rival.false) c.if-step-question.false (c.leads.ensures so)
