use Rattle.std.proofs.Common.{[]}
use Rattle.network_rounds.specs.Senders.{queue_of}
use Rattle.network_rounds.proofs.Groups.{vectors_next}
use Rattle.network_rounds.proofs.senders.no_queues.Goals as goal

pub loop-x-preserved : goal.loop-x-preserved
loop-x-preserved g c =
    vectors_next (queue_of []) c.loop-x._x c.loop-x.queues.items c.push.new.self.items c.new.result c.loop-x.invariant c.in_ok-push.ensures.items
    c.new.ensures.items
