use Rattle.network_machine.proofs.Knowing.{put_owners}
use Rattle.network_machine.proofs.Sets.{puts_at}
use Rattle.network_machine.proofs.steps.put_at.Goals as goal

pub returns-clause-lines : goal.returns-clause-lines
returns-clause-lines c = λ ls all.
    puts_at ls c.args.channels.now c.args.y c.requires.y all c.put_from.new.channel c.args.flit c.args.x c.args.is_tail c.put_from.result
    (c.put_from.ensures.line (ls c.args.y) (all c.args.y c.index-channels-y.result c.requires.y))

pub returns-clause-owners : goal.returns-clause-owners
returns-clause-owners c =
    put_owners c.args.channels.now c.args.y c.args.x c.put_from.new.channel c.index-channels-y.result c.args.is_tail c.put_from.result c.requires.y c.put_from.ensures.owner
