-- Which channels `join all` joins (this project's own format).
use Rattle.std.specs.Prelude.{ℕ, ◌*◌, Bool, Option, if◌then◌else◌, List, [], ◌∷◌, map, length}
use Rattle.std.specs.Prelude.{slice_get, codes}
use Rattle.std.specs.List.{flat_map}
use Rattle.network_judge.specs.declared.table.Kind.{Kind}
use Rattle.network_judge.specs.declared.table.Join.{Join}
use Rattle.network_judge.specs.Table.{is_sender, is_receiver}
use Rattle.network_text.specs.Lines.{first_lines}
use Rattle.network_text.specs.declared.all_pairs.End.{End}
use Rattle.network_text.specs.declared.all_pairs.End.TheVariants.{Sender, Receiver}

-- whether a kind is that of such an end
abbrev pub is_end : End → Option Kind → Bool
is_end Sender kind = is_sender kind
is_end Receiver kind = is_receiver kind

-- a channel, if such an end stands there
abbrev pub channel_at_end : End → List Kind → ℕ → List ℕ
channel_at_end end kinds x = if is_end end (slice_get kinds x) then x ∷ [] else []

-- the channels of such ends, in their order
abbrev pub channels_with : End → List Kind → List ℕ
channels_with end kinds = first_lines (channel_at_end end kinds) (length kinds)

-- a sender with each of these receivers
abbrev pub joins_from : List ℕ → ℕ → List Join
joins_from receivers i = map (λ j. record { from = i; to = j }) receivers

-- each of these senders with each of these receivers
abbrev pub every_join : List ℕ → List ℕ → List Join
every_join senders receivers = flat_map (joins_from receivers) senders

-- each sender with each receiver, by senders and then by receivers
abbrev pub all_joins : List Kind → List Join
all_joins kinds = every_join (channels_with Sender kinds) (channels_with Receiver kinds)

-- how many those are
abbrev pub pairs_in : List Kind → ℕ
pairs_in kinds = length (channels_with Sender kinds) * length (channels_with Receiver kinds)

-- the lines of two tiles, each with a sender and a receiver
abbrev pub two_tiles : List ℕ
two_tiles = codes "channels 4\ninject 0\neject 1\ninject 2\neject 3\n"
