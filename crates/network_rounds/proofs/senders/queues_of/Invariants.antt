use Rattle.std.proofs.Common.{◌≡◌, map, take}
use Rattle.std.specs.List.{range_with_len}
use Rattle.network_rounds.specs.Senders.{queue_of}
use Rattle.network_rounds.proofs.senders.queues_of.Given as goal

-- the packets so far
abbrev pub invariant-loop-k : goal.invariant-loop-k
invariant-loop-k g l = map (λ queue. queue.items) l.queues.items ≡ map (queue_of (take l.k l.traffic)) (range_with_len 0 l.channels)
