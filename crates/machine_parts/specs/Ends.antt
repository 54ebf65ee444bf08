-- The agents at the ends of the channel of each place of the row.
use Rattle.std.specs.Prelude.{ℕ, ◌*◌, ◌/◌, List, map}
use Rattle.std.specs.List.{range_with_len}
use Rattle.torus.specs.Shape.{Shape}
use Rattle.channel_number.specs.Order.{channel_count}
use Rattle.core_laws.specs.Waking.{receiver_of, sender_of}
use Rattle.machine_parts.specs.declared.ends.Ends.{Ends}

-- the agents at the ends of channel x (this project's own format)
abbrev pub ends_of : Shape → ℕ → Ends
ends_of s x = record { sender = sender_of s x; receiver = receiver_of s x }

-- those of the channel of each place, for channels of a depth (this project's own format)
abbrev pub all_ends : Shape → ℕ → List Ends
all_ends s depth = map (λ place. ends_of s (place / depth))
    (range_with_len 0 (channel_count s * depth))
