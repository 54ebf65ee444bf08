-- The numbers of the channels (this project's own numbering, after Dally and Towles, chapter 14:
-- resource ordering).
use Rattle.std.specs.Prelude.{◌≡◌, ℕ, ◌+◌, ◌-◌, ◌*◌, ◌%◌, Bool, true, false, List, length, sum, take, slice_index}
use Rattle.torus.specs.Shape.{Shape, radix_of, dateline_of, digit_of}
use Rattle.torus.specs.declared.shape.Class.{Class}
use Rattle.torus.specs.declared.shape.Class.TheVariants.{Request, Reply}
use Rattle.torus.specs.declared.shape.Dir.{Dir}
use Rattle.torus.specs.declared.shape.Dir.TheVariants.{Plus, Minus}
use Rattle.dateline_route.specs.declared.channel.Channel.{Channel}
use Rattle.dateline_route.specs.declared.channel.Kind.{Kind}
use Rattle.dateline_route.specs.declared.channel.Kind.TheVariants.{Injection, Hop, Ejection}
use Rattle.dateline_route.specs.Walk.{IsChannel}
use Rattle.channel_number.specs.Order.{channel_count, channel_index}

-- how many hops past the dateline digit x lies: x - z - 1 for plus, z - x for minus, modulo k (this
-- project's own numbering)
abbrev pub past_dateline : Dir → ℕ → ℕ → ℕ → ℕ
past_dateline Plus k z x = (x + (k - (z + 1))) % k
past_dateline Minus k z x = (z + (k - x)) % k

-- the rank of a hop among those of its ring: bit 0 below bit 1, and there the dateline hop first
-- (this project's own numbering)
abbrev pub rank_of : Dir → ℕ → ℕ → ℕ → Bool → ℕ
rank_of dir k z x false = past_dateline dir k z x
rank_of dir k z x true = k + (past_dateline dir k z x + 1) % k

-- the number of the injections of a class: replies lie above all requests (this project's own
-- numbering)
abbrev pub first_number : Shape → Class → ℕ
first_number s Request = 0
first_number s Reply = 2 + 2 * sum s.radices

-- the number of a channel of a tile (this project's own numbering)
abbrev pub number_at : Shape → ℕ → Class → Kind → ℕ
number_at s t class Injection = first_number s class
number_at s t class (Hop d dir bit) =
    first_number s class + 1 + 2 * sum (take d s.radices)
    + rank_of dir (radix_of s d) (dateline_of s d) (digit_of s t d) bit
number_at s t class Ejection = first_number s class + 1 + 2 * sum s.radices

-- the number of a channel (this project's own numbering)
abbrev pub number_of : Shape → Channel → ℕ
number_of s x = number_at s x.tile x.class x.kind

-- a list of the numbers of all channels, in channel order (this project's own numbering)
pub record IsNumbering (s : Shape) (numbers : List ℕ) : Type 0 where
  pub count : length numbers ≡ channel_count s
  pub each : (x : Channel) → IsChannel s x → slice_index numbers (channel_index s x) ≡ number_of s x
