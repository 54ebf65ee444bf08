-- Flags by tile and port, and the routers' ends of the channel of each place of the row.
use Rattle.std.specs.Prelude.{ℕ, ◌*◌, ◌/◌, ◌==◌, ◌&&◌, ◌||◌, Bool, true, not, nat_lt, List, map, slice_index}
use Rattle.std.specs.Int.{bit_at}
use Rattle.std.specs.List.{range_with_len}
use Rattle.torus.specs.Shape.{Shape}
use Rattle.channel_number.specs.Order.{channel_count}
use Rattle.tile.specs.Tile.{Design}
use Rattle.core_laws.specs.Routers.{PortFlags, input_end, output_end}
use Rattle.machine_parts.specs.declared.port_ends.PortEnds.{PortEnds}

-- whether a flag is raised in words, which have 32 for each of 64 tiles; one that isn't there is
-- (this project's own format)
abbrev pub is_raised : List ℕ → ℕ → ℕ → Bool
is_raised words t port =
    not (nat_lt t 64 && (nat_lt port 32 && (bit_at (slice_index words t) port == 0)))

-- with the flag of a port raised
abbrev pub raised : (ℕ → ℕ → Bool) → ℕ → ℕ → ℕ → ℕ → Bool
raised f t port u k = f u k || ((u == t) && (k == port))

-- with the flag of a port lowered; one that isn't there stays
abbrev pub lowered : (ℕ → ℕ → Bool) → ℕ → ℕ → ℕ → ℕ → Bool
lowered f t port u k = f u k && not ((u == t) && ((k == port) && nat_lt k 32))

-- with the flags of a tile raised that are raised in others
abbrev pub joined : (ℕ → ℕ → Bool) → ℕ → (ℕ → ℕ → Bool) → ℕ → ℕ → Bool
joined f t g u k = f u k || ((u == t) && g u k)

-- the routers' ends of channel x (this project's own format)
abbrev pub ports_at : Shape → ℕ → PortEnds
ports_at s x = record { output = output_end s x; input = input_end s x }

-- those of the channel of each place, for channels of a depth (this project's own format)
abbrev pub all_ports : Shape → ℕ → List PortEnds
all_ports s depth = map (λ place. ports_at s (place / depth))
    (range_with_len 0 (channel_count s * depth))

-- what a machine is built to, and the words of its routers' flags
pub record AwakePorts : Type 0 where
  pub design : Design
  pub takes : List ℕ
  pub puts : List ℕ
  pub credits : List ℕ
  pub full : List ℕ

-- which choices of its routers count as awake, and which latches as full
abbrev pub flags_of : AwakePorts → PortFlags
flags_of w = record {
  takes = is_raised w.takes;
  puts = is_raised w.puts;
  credits = is_raised w.credits;
  full = is_raised w.full;
}

-- those of a machine that has made no step: all choices count as awake, and no latch that has a flag
-- counts as full (this project's own format)
abbrev pub fresh_ports : PortFlags
fresh_ports = record {
  takes = λ t i. true;
  puts = λ t i. true;
  credits = λ t o. true;
  full = λ t i. not (nat_lt t 64 && nat_lt i 32);
}

-- once a take, a put or a credit of tile t's router has fallen asleep
abbrev pub take_rested : ℕ → ℕ → PortFlags → PortFlags
take_rested t i f = record {
  takes = lowered f.takes t i;
  puts = f.puts;
  credits = f.credits;
  full = f.full;
}

abbrev pub put_rested : ℕ → ℕ → PortFlags → PortFlags
put_rested t i f = record {
  takes = f.takes;
  puts = lowered f.puts t i;
  credits = f.credits;
  full = f.full;
}

abbrev pub credit_rested : ℕ → ℕ → PortFlags → PortFlags
credit_rested t o f = record {
  takes = f.takes;
  puts = f.puts;
  credits = lowered f.credits t o;
  full = f.full;
}

-- once all takes, puts and credits are roused
abbrev pub ports_roused : PortFlags → PortFlags
ports_roused f = record {
  takes = λ t i. true;
  puts = λ t i. true;
  credits = λ t o. true;
  full = f.full;
}
