-- The ports of the routers: the inputs and outputs by number, and the channel at each. Channels
-- stand here by their places in channel order.
use Rattle.std.specs.Prelude.{◌≡◌, ℕ, ◌+◌, ◌-◌, ◌*◌, ◌/◌, ◌%◌, ◌<◌, ◌==◌, nat_lt, if◌then◌else◌, Bool, true, false}
use Rattle.torus.specs.Shape.{Shape, dims_of, tiles_of, radix_of, digit_of, one_hop}
use Rattle.torus.specs.declared.shape.Class.{Class}
use Rattle.torus.specs.declared.shape.Dir.{Dir}
use Rattle.torus.specs.declared.shape.Dir.TheVariants.{Plus, Minus}
use Rattle.dateline_route.specs.declared.channel.Kind.{Kind}
use Rattle.dateline_route.specs.declared.channel.Kind.TheVariants.{Injection, Hop, Ejection}
use Rattle.dateline_route.specs.declared.channel.Input.{Input}
use Rattle.dateline_route.specs.declared.channel.Input.TheVariants.{Inject, Hop as From}
use Rattle.dateline_route.specs.declared.channel.Output.{Output}
use Rattle.dateline_route.specs.declared.channel.Output.TheVariants.{Eject, Hop as To}
use Rattle.dateline_route.specs.Route.{with_digit}
use Rattle.channel_number.specs.Order.{dir_at, class_place, place_in_tile, channels_at_tile}
use Rattle.channel_number.specs.Order.{channel_count, channel_index}
use Rattle.channel_number.specs.Order.{channel_at}

-- how many inputs a router has in n dimensions, and as many outputs (this project's own format)
abbrev pub port_count : ℕ → ℕ
port_count n = 8 * n + 2

-- the other direction
abbrev pub opposite : Dir → Dir
opposite Plus = Minus
opposite Minus = Plus

-- the tile from which a hop in a direction of dimension d arrives at tile t (Dally and Towles,
-- chapter 5)
abbrev pub hop_source : Shape → ℕ → ℕ → Dir → ℕ
hop_source s t d dir = with_digit s t d (one_hop (opposite dir) (radix_of s d) (digit_of s t d))

-- the tile to whose router the channels out of tile t of this kind lead; an ejection leads out of
-- the network at its own (Dally and Towles, chapter 5)
abbrev pub tile_after : Shape → ℕ → Kind → ℕ
tile_after s t (Hop d dir bit) = with_digit s t d (one_hop dir (radix_of s d) (digit_of s t d))
tile_after s t _ = t

-- whether a channel leads into the network (Dally and Towles, chapter 14)
abbrev pub is_injection : Kind → Bool
is_injection Injection = true
is_injection _ = false

-- whether a channel leads out of the network (Dally and Towles, chapter 14)
abbrev pub is_ejection : Kind → Bool
is_ejection Ejection = true
is_ejection _ = false

-- the injection of a tile for packets of a class (this project's own format)
abbrev pub injection_channel : Shape → ℕ → Class → ℕ
injection_channel s t class = channel_index s (record { tile = t; class = class; kind = Injection })

-- the ejection of a tile for packets of a class (this project's own format)
abbrev pub ejection_channel : Shape → ℕ → Class → ℕ
ejection_channel s t class = channel_index s (record { tile = t; class = class; kind = Ejection })

-- the channel at input i of tile t's router: the hop of that number out of the tile from which it
-- arrives, or an injection (this project's own format)
abbrev pub input_channel : Shape → ℕ → ℕ → ℕ
input_channel s t i =
    if nat_lt i (8 * dims_of s)
    then hop_source s t (i / 8) (dir_at (i / 4 % 2)) * channels_at_tile s + i
    else t * channels_at_tile s + i

-- the channel at output o of tile t's router:
-- the hop of that number out of the tile, or an ejection, which stands behind the two injections
-- (this project's own format)
abbrev pub output_channel : Shape → ℕ → ℕ → ℕ
output_channel s t o = if nat_lt o (8 * dims_of s) then t * channels_at_tile s + o else t * channels_at_tile s + (o + 2)

-- where a packet comes from at input i, in n dimensions (this project's own format)
abbrev pub input_numbered : ℕ → ℕ → Input
input_numbered n i = if nat_lt i (8 * n) then From (i / 8) (dir_at (i / 4 % 2)) (i % 2 == 1)
    else Inject

-- the number of an output for packets of a class, in n dimensions: a hop's is its place, and the
-- ejections follow (this project's own format)
abbrev pub output_number : ℕ → Class → Output → ℕ
output_number n class (To d dir bit) = place_in_tile n class (Hop d dir bit)
output_number n class Eject = 8 * n + class_place class

-- the router to which a channel leads, and its input there (this project's own format)
abbrev pub input_router : Shape → ℕ → ℕ
input_router s x = tile_after s (channel_at s x).tile (channel_at s x).kind

abbrev pub input_port : Shape → ℕ → ℕ
input_port s x = x % channels_at_tile s

-- the router that a channel leaves, and its output there (this project's own format)
abbrev pub output_router : Shape → ℕ → ℕ
output_router s x = x / channels_at_tile s

abbrev pub output_port : Shape → ℕ → ℕ
output_port s x = if nat_lt (x % channels_at_tile s) (8 * dims_of s) then x % channels_at_tile s
    else x % channels_at_tile s - 2

-- input i of tile t's router is at a channel that leads there, and at no other input
pub record IsInput (s : Shape) (t i : ℕ) : Type 0 where
  pub below : input_channel s t i < channel_count s
  pub leads : is_ejection (channel_at s (input_channel s t i)).kind ≡ false
  pub router : input_router s (input_channel s t i) ≡ t
  pub port : input_port s (input_channel s t i) ≡ i

-- a channel that leads to a router is at one of its inputs
pub record HasInput (s : Shape) (x : ℕ) : Type 0 where
  pub tile : input_router s x < tiles_of s
  pub port : input_port s x < port_count (dims_of s)
  pub same : input_channel s (input_router s x) (input_port s x) ≡ x

-- output o of tile t's router is at a channel that leaves it, and at no other output
pub record IsOutput (s : Shape) (t o : ℕ) : Type 0 where
  pub below : output_channel s t o < channel_count s
  pub leaves : is_injection (channel_at s (output_channel s t o)).kind ≡ false
  pub router : output_router s (output_channel s t o) ≡ t
  pub port : output_port s (output_channel s t o) ≡ o

-- a channel that leaves a router is at one of its outputs
pub record HasOutput (s : Shape) (x : ℕ) : Type 0 where
  pub tile : output_router s x < tiles_of s
  pub port : output_port s x < port_count (dims_of s)
  pub same : output_channel s (output_router s x) (output_port s x) ≡ x
