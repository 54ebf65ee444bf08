use Rattle.network_rounds.proofs.Queues.{packet_added, packet_apart}
use Rattle.network_rounds.proofs.senders.add_packet.Goals as goal

pub returns-in_ok-push : goal.returns-in_ok-push
returns-in_ok-push g c = λ traffic channels is.
    packet_added c.args.queues.now traffic channels c.args.timed is c.push.new.self c.index-queues-x.result c.if-x-queues.true c.in_ok-push.ensures.items

pub returns-else-x-queues : goal.returns-else-x-queues
returns-else-x-queues g c = λ traffic channels is. packet_apart c.args.queues.now traffic channels c.args.timed is c.if-x-queues.false
