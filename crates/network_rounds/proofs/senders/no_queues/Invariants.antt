use Rattle.std.proofs.Common.{◌≡◌, [], map}
use Rattle.std.specs.List.{range_with_len}
use Rattle.network_rounds.specs.Senders.{queue_of}
use Rattle.network_rounds.proofs.senders.no_queues.Given as goal

-- the queues so far
abbrev pub invariant-loop-x : goal.invariant-loop-x
invariant-loop-x g l = map (λ queue. queue.items) l.queues.items ≡ map (queue_of []) (range_with_len 0 l._x)
