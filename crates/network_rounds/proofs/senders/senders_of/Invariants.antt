use Rattle.std.proofs.Common.{◌≡◌}
use Rattle.std.specs.Prelude.{filter}
use Rattle.std.specs.List.{range_with_len}
use Rattle.network_rounds.specs.Senders.{has_packets}
use Rattle.network_rounds.proofs.senders.senders_of.Given as goal

-- the senders so far
abbrev pub invariant-loop-x : goal.invariant-loop-x
invariant-loop-x g l = l.senders.items ≡ filter (has_packets l.queues) (range_with_len 0 l.x)
