use Rattle.std.proofs.Common.{◌≡◌, ◌≤◌, length, take}
use Rattle.std.specs.Prelude.{slice_index, option_to_list}
use Rattle.std.specs.List.{flat_map}
use Rattle.network_rounds.specs.Senders.{due_of, queue_at}
use Rattle.network_rounds.proofs.senders.due_packets.Given as goal

-- the packets of the senders so far
abbrev pub invariant-loop-k : goal.invariant-loop-k
invariant-loop-k g l = record {
  size : length l.sends ≡ length l.initial.sends;
  few : l.count ≤ l.k;
  so_far : take l.count l.sends
      ≡ flat_map (λ x. option_to_list (due_of (queue_at l.queues x) (slice_index l.begun x) l.round)) (take l.k l.senders);
}
