use Rattle.model_values.proofs.Taking.{takes}
use Rattle.model_values.proofs.choices.take_next.Goals as goal

pub returns : goal.returns
returns g c = takes c.args.valued.now c.args.path.now.items c.push.new.self.items c.args.x c.in-Some.s c.in-Some.ensures.may c.in-Some.ensures.least
    c.in_ok-push.ensures.items
