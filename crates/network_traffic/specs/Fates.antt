-- What becomes of packets in a run: in which round each is begun and delivered, by the moves of the
-- run over flits that have the number of their packet.
use Rattle.std.specs.Prelude.{ℕ, ◌+◌, ◌-◌, ◌==◌, ◌&&◌, nat_lt, Bool, false, if◌then◌else◌, is_some}
use Rattle.std.specs.Prelude.{List, [], ◌∷◌, map, length, slice_index, slice_index_or, Option, Some, None}
use Rattle.network_judge.specs.Table.{Table, channels_of}
use Rattle.network_machine.specs.declared.moves.Move.{Move}
use Rattle.network_machine.specs.declared.moves.Move.TheVariants.{Send, More, Take, Put, Accept}
use Rattle.network_machine.specs.declared.moves.Move.TheVariants.{Credit}
use Rattle.network_rounds.specs.declared.senders.Timed.{Timed}
use Rattle.network_rounds.specs.Counts.{one_at}
use Rattle.network_traffic.specs.Plans.{all_numbers, next_number}
use Rattle.network_traffic.specs.Labels.{LabelsSpec, label_first, labels_after, no_labels}

-- a move of a run, and its round
pub record Stamped : Type 0 where
  pub round : ℕ
  pub move : Move

-- the moves of a round behind those before, the last move first
abbrev pub stamped : ℕ → List Move → List Stamped → List Stamped
stamped round [] log = log
stamped round (move ∷ moves) log = stamped round moves (record { round = round; move = move } ∷ log)

-- the moves of some rounds, of which the last comes first
abbrev pub log_of : List (List Move) → List Stamped
log_of [] = []
log_of (made ∷ before) = stamped (length before + 1) made (log_of before)

-- where flits stand behind some moves
abbrev pub labels_behind : Table → List Timed → List Stamped → LabelsSpec
labels_behind t packets [] = no_labels (channels_of t)
labels_behind t packets (s ∷ before) =
    labels_after t packets (labels_behind t packets before) s.move

-- the packet that a move begins
abbrev pub packet_begun : Table → List Timed → LabelsSpec → Move → Option ℕ
packet_begun t packets l (Send p) =
    next_number (all_numbers packets (channels_of t)) l.begun p.from
packet_begun t packets l (More x) = None
packet_begun t packets l (Take x) = None
packet_begun t packets l (Put x) = None
packet_begun t packets l (Accept x) = None
packet_begun t packets l (Credit x) = None

-- the packet of which a receiver takes a flit by a move
abbrev pub packet_accepted : LabelsSpec → Move → Option ℕ
packet_accepted l (Send p) = None
packet_accepted l (More x) = None
packet_accepted l (Take x) = None
packet_accepted l (Put x) = None
packet_accepted l (Accept x) = label_first l.flits x
packet_accepted l (Credit x) = None

-- whether it is this packet
abbrev pub names_packet : ℕ → Option ℕ → Bool
names_packet k None = false
names_packet k (Some j) = k == j

-- how many flits of a packet receivers have taken
abbrev pub flits_accepted : Table → List Timed → ℕ → List Stamped → ℕ
flits_accepted t packets k [] = 0
flits_accepted t packets k (s ∷ before) = flits_accepted t packets k before
    + one_at k (packet_accepted (labels_behind t packets before) s.move)

-- how many flits each packet has
abbrev pub sizes_of : List Timed → List ℕ
sizes_of packets = map (λ timed. timed.packet.length) packets

-- how many flits of a packet are still to come to its receiver
abbrev pub flits_to_come : Table → List Timed → ℕ → List Stamped → ℕ
flits_to_come t packets k log =
    slice_index (sizes_of packets) k - flits_accepted t packets k log

-- the round of the move that begins a packet, if one does
abbrev pub begun_in_round : Table → List Timed → ℕ → List Stamped → Option ℕ
begun_in_round t packets k [] = None
begun_in_round t packets k (s ∷ before) =
    if names_packet k (packet_begun t packets (labels_behind t packets before) s.move)
    then Some s.round else begun_in_round t packets k before

-- the round of the move by which its receiver has all of a packet, if one does
abbrev pub delivered_in_round : Table → List Timed → ℕ → List Stamped → Option ℕ
delivered_in_round t packets k [] = None
delivered_in_round t packets k (s ∷ before) =
    if nat_lt 0 (flits_to_come t packets k before) && flits_to_come t packets k (s ∷ before) == 0
    then Some s.round else delivered_in_round t packets k before

-- the packet of the flit in the latch behind a channel, behind some rounds
abbrev pub latched_behind : Table → List Timed → ℕ → List (List Move) → Option ℕ
latched_behind t packets x rounds =
    slice_index_or (labels_behind t packets (log_of rounds)).latches x None

-- one, if a flit stands in a latch when a round begins and when it ends
abbrev pub wait_between : Option ℕ → Option ℕ → ℕ
wait_between before after = if is_some before && is_some after then 1 else 0

-- in how many rounds a flit waits in the latch behind a channel: it stands there when the round begins
-- and when it ends
abbrev pub rounds_waited : Table → List Timed → ℕ → List (List Move) → ℕ
rounds_waited t packets x [] = 0
rounds_waited t packets x (made ∷ before) = rounds_waited t packets x before
    + wait_between (latched_behind t packets x before) (latched_behind t packets x (made ∷ before))
