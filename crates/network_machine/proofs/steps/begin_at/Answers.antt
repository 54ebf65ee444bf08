use Rattle.std.proofs.Common.{refl}
use Rattle.network_machine.proofs.Sets.{begins_at}
use Rattle.network_machine.proofs.steps.begin_at.Goals as goal

pub returns-clause-lines : goal.returns-clause-lines
returns-clause-lines c = λ n ls within injects parcel all.
    begins_at ls c.args.channels.now c.args.packet.from c.requires.x all c.begin.new.channel n c.args.packet refl within injects parcel c.begin.result
    (c.begin.ensures.line (ls c.args.packet.from) (all c.args.packet.from c.index-channels-packet.result c.requires.x))
