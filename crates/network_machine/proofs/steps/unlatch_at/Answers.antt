use Rattle.network_machine.proofs.Sets.{unlatches_at}
use Rattle.network_machine.proofs.steps.unlatch_at.Goals as goal

pub returns-clause-lines : goal.returns-clause-lines
returns-clause-lines c = λ ls all.
    unlatches_at ls c.args.channels.now c.args.x c.requires.x all c.unlatch.new.channel
    (c.unlatch.ensures.line (ls c.args.x) (all c.args.x c.index-channels-x.result c.requires.x))
