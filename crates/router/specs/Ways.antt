-- The ways of packets through a router, by those of packets that are injected at its tile.
use Rattle.std.specs.Prelude.{ℕ, ◌*◌, ◌/◌, ◌%◌, ◌<◌, ◌==◌, nat_lt, ◌||◌, ◌&&◌, if◌then◌else◌}
use Rattle.channel_number.specs.Order.{dir_at}
use Rattle.dateline_route.specs.declared.channel.Output.{Output}
use Rattle.dateline_route.specs.declared.channel.Output.TheVariants.{Eject, Hop as To}

-- the way of a packet that came by an input, by that of one injected: on bit 1 also where it came
-- on bit 1 in the same dimension (Dally and Towles, chapter 14)
abbrev pub onward : ℕ → Output → Output
onward i Eject = Eject
onward i (To d dir bit) = To d dir (bit || ((i / 8 == d) && (i % 2 == 1)))

-- the dimension of an output is there
abbrev pub HasDimension : ℕ → Output → Type 0
HasDimension dims Eject = Unit {0}
HasDimension dims (To d dir bit) = d < dims

-- the output of a number for requests, in so many dimensions (this project's own format)
abbrev pub output_numbered : ℕ → ℕ → Output
output_numbered dims n =
    if nat_lt n (8 * dims) then To (n / 8) (dir_at (n / 4 % 2)) (n % 2 == 1) else Eject
