use Rattle.network_machine.proofs.Sets.{credits_at}
use Rattle.network_machine.proofs.steps.credit_at.Goals as goal

pub returns-clause-lines : goal.returns-clause-lines
returns-clause-lines c = λ n ls within all.
    credits_at ls c.args.channels.now c.args.x c.requires.x all c.credit.new.channel n within c.credit.result
    (c.credit.ensures.line (ls c.args.x) (all c.args.x c.index-channels-x.result c.requires.x))
