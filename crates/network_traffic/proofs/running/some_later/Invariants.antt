use Rattle.std.proofs.Common.{◌≡◌, false, length, take}
use Rattle.std.specs.Prelude.{slice_get, slice_index}
use Rattle.std.specs.List.{list_any, range_with_len}
use Rattle.network_rounds.specs.Senders.{queue_at}
use Rattle.network_traffic.specs.Simulated.{is_later}
use Rattle.network_traffic.proofs.running.some_later.Given as goal

-- none of the senders so far
abbrev pub invariant-loop-x : goal.invariant-loop-x
invariant-loop-x g l =
    list_any (λ z. is_later l.round (slice_get (queue_at l.queues z) (slice_index l.begun z))) (take l.x (range_with_len 0 (length l.queues))) ≡ false
