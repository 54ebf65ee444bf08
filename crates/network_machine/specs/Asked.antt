-- The outputs that heads ask for.
use Rattle.std.specs.Prelude.{◌≡◌, ℕ, ◌&&◌, nat_lt, if◌then◌else◌, length, slice_get, Option, Some, None}
use Rattle.std.specs.Prelude.{option_and_then}
use Rattle.network_judge.specs.Table.{kind_of, table_next, is_receiver}
use Rattle.network_judge.specs.LockUps.{plain_format}
use Rattle.network_machine.specs.Machine.{NetworkMachineSpec}

-- a channel, if it is there
abbrev pub channel_there : NetworkMachineSpec → ℕ → Option ℕ
channel_there m y = if nat_lt y (length m.channels) then Some y else None

-- the output that a flit asks for behind channel x: the router's choice, if it is a head (Dally and
-- Towles, Principles and Practices of Interconnection Networks, 2004, chapter 16)
abbrev pub asked_by_flit : NetworkMachineSpec → ℕ → ℕ → Option ℕ
asked_by_flit m x flit =
    if plain_format.is_head flit && is_receiver (kind_of m.table (plain_format.told flit))
    then channel_there m (table_next m.table x (plain_format.told flit)) else None

-- the output that the flit in the latch behind channel x asks for, if a head stands there
abbrev pub asked : NetworkMachineSpec → ℕ → Option ℕ
asked m x =
    option_and_then (λ channel. option_and_then (asked_by_flit m x) channel.latch) (slice_get m.channels x)
