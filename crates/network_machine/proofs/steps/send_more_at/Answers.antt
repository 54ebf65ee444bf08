use Rattle.network_machine.proofs.Sets.{goes_on_at}
use Rattle.network_machine.proofs.steps.send_more_at.Goals as goal

pub returns-clause-lines : goal.returns-clause-lines
returns-clause-lines c = λ n ls within injects all.
    goes_on_at ls c.args.channels.now c.args.x c.requires.x all c.send_more.new.channel n within injects c.send_more.result
    (c.send_more.ensures.line (ls c.args.x) (all c.args.x c.index-channels-x.result c.requires.x))
