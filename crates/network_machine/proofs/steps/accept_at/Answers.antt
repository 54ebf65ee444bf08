use Rattle.network_machine.proofs.Sets.{accepts_at}
use Rattle.network_machine.proofs.steps.accept_at.Goals as goal

pub returns-clause-lines : goal.returns-clause-lines
returns-clause-lines c = λ n ls within ends all.
    accepts_at ls c.args.channels.now c.args.x c.requires.x all c.accept.new.channel n within ends c.accept.result
    (c.accept.ensures.line (ls c.args.x) (all c.args.x c.index-channels-x.result c.requires.x))
