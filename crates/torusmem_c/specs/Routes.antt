-- Routes and ports, as C sees them (this project's own format).
use Rattle.std.specs.Prelude.{ℕ, ◌&&◌, nat_lt, if◌then◌else◌, Option, Some, None}
use Rattle.torus.specs.Shape.{Shape, dims_of, tiles_of}
use Rattle.dateline_route.specs.Next.{next_of}
use Rattle.channel_number.specs.Order.{class_of_place}
use Rattle.channel_number.specs.Ports.{input_numbered, output_number, port_count}

-- the number of the output of tile at's router by which a packet for tile dst goes on that came by
-- an input
abbrev pub output_after : Shape → ℕ → ℕ → ℕ → ℕ
output_after s at input dst =
    output_number (dims_of s) (class_of_place (dims_of s) input)
    (next_of s at (input_numbered (dims_of s) input) dst)

-- that number, where there are such tiles and such an input
abbrev pub next_number : Shape → ℕ → ℕ → ℕ → Option ℕ
next_number s at input dst =
    if nat_lt at (tiles_of s) && nat_lt dst (tiles_of s) && nat_lt input (port_count (dims_of s))
    then Some (output_after s at input dst) else None
