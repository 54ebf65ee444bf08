-- The channels at a router's ports, and its ports in the beginning.
use Rattle.std.specs.Prelude.{ℕ, ◌*◌, List, map, replicate}
use Rattle.std.specs.List.{range_with_len}
use Rattle.torus.specs.Shape.{Shape, dims_of}
use Rattle.channel_number.specs.Order.{channel_count}
use Rattle.channel_number.specs.Ports.{port_count, input_channel, output_channel}
use Rattle.flit_buffer.specs.Ends.{SendingEnd, ReceivingEnd}
use Rattle.flit_buffer.specs.Places.{empty_ring}
use Rattle.flit_buffer.specs.Surroundings.{Surroundings, Wiring}
use Rattle.flit_buffer.specs.Wants.{PortEnds}

-- a tile's router has all its inputs and outputs (this project's own format)
abbrev pub router_wiring : Shape → ℕ → Wiring
router_wiring s t = record {
  inputs = map (input_channel s t) (range_with_len 0 (port_count (dims_of s)));
  outputs = map (output_channel s t) (range_with_len 0 (port_count (dims_of s)));
}

-- all channels of a torus, empty, and the words (this project's own format)
abbrev pub empty_surroundings : Shape → ℕ → List ℕ → Surroundings
empty_surroundings s depth words =
    record { rings = replicate (channel_count s) (empty_ring depth); words = words }

-- the receiving end of the empty channel at an input (this project's own format)
abbrev pub new_input : Shape → ℕ → ℕ → ℕ → ReceivingEnd
new_input s t depth i = record { base = input_channel s t i * depth; depth = depth; next = 0 }

-- the sending end of the empty channel at an output: it holds all credits (this project's own
-- format)
abbrev pub new_output : Shape → ℕ → ℕ → ℕ → SendingEnd
new_output s t depth o = record {
  base = output_channel s t o * depth;
  depth = depth;
  next = 0;
  credits = depth;
}

-- a router's ports in the beginning, where all channels are empty; the words stand behind the
-- places of all channels (this project's own format)
abbrev pub router_ports : Shape → ℕ → ℕ → PortEnds
router_ports s t depth = record {
  inputs = map (new_input s t depth) (range_with_len 0 (port_count (dims_of s)));
  outputs = map (new_output s t depth) (range_with_len 0 (port_count (dims_of s)));
  words = channel_count s * depth;
}
