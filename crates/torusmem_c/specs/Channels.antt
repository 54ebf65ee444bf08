-- The channels of routes, as C sees them (this project's own format).
use Rattle.std.specs.Prelude.{◌≡◌, ℕ, List, [], ◌∷◌, ◌&&◌, nat_lt, if◌then◌else◌, map, Option, Some, None, option_map}
use Rattle.std.specs.Prelude.{slice_get}
use Rattle.torus.specs.Shape.{Shape, tiles_of}
use Rattle.torus.specs.declared.shape.Class.{Class}
use Rattle.torus.specs.declared.shape.Class.TheVariants.{Request, Reply}
use Rattle.dateline_route.specs.declared.channel.Channel.{Channel}
use Rattle.dateline_route.specs.declared.channel.Kind.{Kind}
use Rattle.dateline_route.specs.declared.channel.Kind.TheVariants.{Injection, Hop, Ejection}
use Rattle.dateline_route.specs.Route.{route_of}
use Rattle.channel_number.specs.Number.{number_of}
use Rattle.channel_number.specs.Order.{bit_place, dir_place}
use Rattle.core_laws.specs.Machine.{Core}
use Rattle.torusmem_c.specs.declared.outcome.Outcome.{Outcome}
use Rattle.torusmem_c.specs.declared.outcome.Code.TheVariants as code
use Rattle.torusmem_c.specs.declared.routes.ChannelRecord.{ChannelRecord}
use Rattle.torusmem_c.specs.Outcome.{c_outcome}
use Rattle.torusmem_c.specs.Room.{put_over, put_outcome}

-- the number by which C knows a kind of channel; for a hop its dimension, whether it goes minus,
-- and its bit, else 0
abbrev pub kind_number : Kind → ℕ
kind_number Injection = 0
kind_number (Hop dim dir bit) = 1
kind_number Ejection = 2

abbrev pub kind_dim : Kind → ℕ
kind_dim (Hop dim dir bit) = dim
kind_dim _ = 0

abbrev pub kind_minus : Kind → ℕ
kind_minus (Hop dim dir bit) = dir_place dir
kind_minus _ = 0

abbrev pub kind_bit : Kind → ℕ
kind_bit (Hop dim dir bit) = bit_place bit
kind_bit _ = 0

-- what C sees of a channel
abbrev pub channel_record : Shape → Channel → ChannelRecord
channel_record s x = record {
  kind = kind_number x.kind;
  tile = x.tile;
  dim = kind_dim x.kind;
  minus = kind_minus x.kind;
  bit = kind_bit x.kind;
  number = number_of s x;
}

-- the class that has a number
abbrev pub class_named : ℕ → Option Class
class_named class = slice_get (Request ∷ Reply ∷ []) class

-- what C sees of a route
abbrev pub channel_records : Shape → ℕ → ℕ → Class → List ChannelRecord
channel_records s src dst class = map (channel_record s) (route_of s src dst class)

-- the route of a class that has a number, where there are such tiles and such a class
abbrev pub route_named : Shape → ℕ → ℕ → ℕ → Option (List ChannelRecord)
route_named s src dst class =
    if nat_lt src (tiles_of s) && nat_lt dst (tiles_of s)
    then option_map (channel_records s src dst) (class_named class) else None

-- a buffer with that route at its front
abbrev pub put_found : {A : Type 0} → Option (List A) → List A → List A
put_found None out = out
put_found (Some found) out = put_over found out

abbrev pub found_outcome : {A : Type 0} → Option (List A) → List A → Outcome
found_outcome None out = c_outcome code.NoSuch 0
found_outcome (Some found) out = put_outcome found out

abbrev pub put_route : Shape → ℕ → ℕ → ℕ → List ChannelRecord → List ChannelRecord
put_route s src dst class out = put_found (route_named s src dst class) out

abbrev pub route_outcome : Shape → ℕ → ℕ → ℕ → List ChannelRecord → Outcome
route_outcome s src dst class out = found_outcome (route_named s src dst class) out

-- the route is put into a buffer, and nothing of the machine changes
pub record PutsRoute (src dst class : ℕ) (before after : List ChannelRecord) (old new : Core)
    (r : Outcome) : Type 0 where
  pub same : new ≡ old
  pub buffer : after ≡ put_route old.shape src dst class before
  pub answer : r ≡ route_outcome old.shape src dst class before
