-- The order of the channels of a torus:
-- tile by tile, at a tile the hops by dimension, direction, class and bit, then the injections and
-- the ejections by class (this project's own format).
use Rattle.std.specs.Prelude.{ℕ, zero, suc, ◌+◌, ◌*◌, ◌/◌, ◌%◌, ◌==◌, nat_lt, Bool, true, false, if◌then◌else◌}
use Rattle.torus.specs.Shape.{Shape, dims_of, tiles_of}
use Rattle.torus.specs.declared.shape.Class.{Class}
use Rattle.torus.specs.declared.shape.Class.TheVariants.{Request, Reply}
use Rattle.torus.specs.declared.shape.Dir.{Dir}
use Rattle.torus.specs.declared.shape.Dir.TheVariants.{Plus, Minus}
use Rattle.dateline_route.specs.declared.channel.Channel.{Channel}
use Rattle.dateline_route.specs.declared.channel.Kind.{Kind}
use Rattle.dateline_route.specs.declared.channel.Kind.TheVariants.{Injection, Hop, Ejection}

-- plus before minus (this project's own format)
abbrev pub dir_place : Dir → ℕ
dir_place Plus = 0
dir_place Minus = 1

-- request before reply (this project's own format)
abbrev pub class_place : Class → ℕ
class_place Request = 0
class_place Reply = 1

-- bit 0 before bit 1 (this project's own format)
abbrev pub bit_place : Bool → ℕ
bit_place false = 0
bit_place true = 1

-- the place of a channel among those of its tile, in n dimensions (this project's own format)
abbrev pub place_in_tile : ℕ → Class → Kind → ℕ
place_in_tile n class (Hop d dir bit) = 8 * d + 4 * dir_place dir + 2 * class_place class + bit_place bit
place_in_tile n class Injection = 8 * n + class_place class
place_in_tile n class Ejection = 8 * n + 2 + class_place class

-- how many channels a tile sends or holds (this project's own format)
abbrev pub channels_at_tile : Shape → ℕ
channels_at_tile s = 8 * dims_of s + 4

-- how many channels there are (this project's own format)
abbrev pub channel_count : Shape → ℕ
channel_count s = tiles_of s * channels_at_tile s

-- the place of a channel among all (this project's own format)
abbrev pub channel_index : Shape → Channel → ℕ
channel_index s x = x.tile * channels_at_tile s + place_in_tile (dims_of s) x.class x.kind

-- the direction of a place among the directions
abbrev pub dir_at : ℕ → Dir
dir_at zero = Plus
dir_at (suc m) = Minus

-- the class of a place among the classes
abbrev pub class_at : ℕ → Class
class_at zero = Request
class_at (suc m) = Reply

-- the class of the channel at place p of a tile, in n dimensions (this project's own format)
abbrev pub class_of_place : ℕ → ℕ → Class
class_of_place n p = if nat_lt p (8 * n) then class_at (p / 2 % 2) else class_at (p % 2)

-- the kind of the channel at place p of a tile, in n dimensions: the hops stand first, then the
-- injections, then the ejections (this project's own format)
abbrev pub kind_of_place : ℕ → ℕ → Kind
kind_of_place n p =
    if nat_lt p (8 * n) then Hop (p / 8) (dir_at (p / 4 % 2)) (p % 2 == 1)
    else if nat_lt p (8 * n + 2) then Injection else Ejection

-- the channel that has a place among all (this project's own format)
abbrev pub channel_at : Shape → ℕ → Channel
channel_at s x = record {
  tile = x / channels_at_tile s;
  class = class_of_place (dims_of s) (x % channels_at_tile s);
  kind = kind_of_place (dims_of s) (x % channels_at_tile s);
}
