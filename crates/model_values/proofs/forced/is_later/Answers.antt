use Rattle.model_values.proofs.Forcing.{forced_later}
use Rattle.model_values.proofs.forced.is_later.Goals as goal

pub returns : goal.returns
returns c so = forced_later c.args.question.now c.args.edges.now c.args.x c.args.step.to c.args.step.from
    (c.is_rival.ensures.yes c.if-not-is_rival.false) c.if-step-x.false (c.leads.ensures so)
