use Rattle.network_machine.proofs.Sets.{takes_at}
use Rattle.network_machine.proofs.steps.take_at.Goals as goal

pub returns-clause-lines : goal.returns-clause-lines
returns-clause-lines c = λ n ls within input all.
    takes_at ls c.args.channels.now c.args.x c.requires.x all c.take.new.channel n within input c.take.result
    (c.take.ensures.line (ls c.args.x) (all c.args.x c.index-channels-x.result c.requires.x))
