-- What the moves of a run come to, by channels.
use Rattle.std.specs.Prelude.{ℕ, ◌==◌, if◌then◌else◌, List, Option, Some, None}
use Rattle.std.specs.List.{sum_by}
use Rattle.network_machine.specs.declared.moves.Move.{Move}
use Rattle.network_machine.specs.declared.moves.Move.TheVariants.{Send, More, Take, Put, Accept}
use Rattle.network_machine.specs.declared.moves.Move.TheVariants.{Credit}

-- the channel that a flit leaves, into the latch behind it or to its receiver
abbrev pub channel_left : Move → Option ℕ
channel_left (Send p) = None
channel_left (More x) = None
channel_left (Take x) = Some x
channel_left (Put x) = None
channel_left (Accept x) = Some x
channel_left (Credit x) = None

-- the channel into which a sender begins a packet
abbrev pub begun_by : Move → Option ℕ
begun_by (Send p) = Some p.from
begun_by (More x) = None
begun_by (Take x) = None
begun_by (Put x) = None
begun_by (Accept x) = None
begun_by (Credit x) = None

-- one, if it is this channel
abbrev pub one_at : ℕ → Option ℕ → ℕ
one_at x None = 0
one_at x (Some y) = if x == y then 1 else 0

-- how many flits leave a channel by some moves
abbrev pub flits_gone : ℕ → List Move → ℕ
flits_gone x moves = sum_by (λ move. one_at x (channel_left move)) moves

-- how many packets a sender begins by some moves
abbrev pub packets_begun : ℕ → List Move → ℕ
packets_begun x moves = sum_by (λ move. one_at x (begun_by move)) moves
