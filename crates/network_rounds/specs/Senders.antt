-- Packets that senders begin from some round on, and those whose turn it is.
use Rattle.std.specs.Prelude.{◌≡◌, ℕ, ◌==◌, nat_le, nat_lt, if◌then◌else◌, Bool, List, [], map, Vec}
use Rattle.std.specs.Prelude.{length, filter}
use Rattle.std.specs.Prelude.{Option, Some, None, slice_get, slice_index_or}
use Rattle.std.specs.Prelude.{option_and_then, option_to_list}
use Rattle.std.specs.List.{flat_map, range_with_len}
use Rattle.network_machine.specs.declared.moves.Move.{Move}
use Rattle.network_machine.specs.declared.moves.Move.TheVariants.{Send}
use Rattle.network_rounds.specs.declared.senders.Timed.{Timed}

-- the packets of a sender, in their order
abbrev pub queue_of : List Timed → ℕ → List Timed
queue_of traffic x = filter (λ timed. timed.packet.from == x) traffic

-- the queue of a sender, of all queues
abbrev pub queue_at : {A : Type 0} → List (Vec Timed A) → ℕ → List Timed
queue_at queues x = slice_index_or (map (λ queue. queue.items) queues) x []

-- the next packet of a queue, if its round has come
abbrev pub due_of : List Timed → ℕ → ℕ → Option Move
due_of queue begun round = option_and_then
    (λ timed. if nat_le timed.round round then Some (Send timed.packet) else None)
    (slice_get queue begun)

-- the packets whose turn it is, of so many senders, where so many of each sender are begun
abbrev pub dues_of : (ℕ → List Timed) → (ℕ → ℕ) → ℕ → ℕ → List Move
dues_of queues begun round count =
    flat_map (λ x. option_to_list (due_of (queues x) (begun x) round)) (range_with_len 0 count)

-- whether a sender has packets
abbrev pub has_packets : {A : Type 0} → List (Vec Timed A) → ℕ → Bool
has_packets queues x = nat_lt 0 (length (queue_at queues x))

-- the senders that have packets, in rising order
abbrev pub AreSenders : {A : Type 0} → List (Vec Timed A) → List ℕ → Type 0
AreSenders queues senders = senders ≡ filter (has_packets queues) (range_with_len 0 (length queues))
