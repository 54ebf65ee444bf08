-- The lines that tell of channels (this project's own format).
use Rattle.std.specs.Prelude.{◌≡◌, ℕ, ◌/◌, ◌%◌, Bool, true, false, List, [], ◌∷◌, ◌++◌, codes, decimal, map}
use Rattle.std.specs.Prelude.{slice_index}
use Rattle.std.specs.List.{join_with_byte, flat_map, range_with_len}
use Rattle.torus.specs.Shape.{Shape}
use Rattle.torus.specs.declared.shape.Class.{Class}
use Rattle.torus.specs.declared.shape.Dir.{Dir}
use Rattle.torus.specs.declared.shape.Dir.TheVariants.{Plus, Minus}
use Rattle.dateline_route.specs.declared.channel.Channel.{Channel}
use Rattle.dateline_route.specs.declared.channel.Kind.{Kind}
use Rattle.dateline_route.specs.declared.channel.Kind.TheVariants.{Injection, Hop, Ejection}
use Rattle.dateline_route.specs.Route.{route_of}
use Rattle.channel_number.specs.Number.{number_of}
use Rattle.channel_number.specs.Order.{channel_count, channels_at_tile}
use Rattle.channel_number.specs.Rising.{IsRising}

-- the bytes of a line: its words with one space between each two, and a line feed
abbrev pub line_of : List (List ℕ) → List ℕ
line_of words = join_with_byte 32 words ++ 10 ∷ []

-- the word for a direction
abbrev pub dir_word : Dir → List ℕ
dir_word Plus = codes "plus"
dir_word Minus = codes "minus"

-- the word for a bit
abbrev pub bit_word : Bool → List ℕ
bit_word false = codes "0"
bit_word true = codes "1"

-- the words for a channel of a tile, with its number
abbrev pub kind_words : Kind → ℕ → ℕ → List (List ℕ)
kind_words Injection tile number = codes "inject" ∷ decimal tile ∷ decimal number ∷ []
kind_words (Hop dim dir bit) tile number =
    codes "hop" ∷ decimal tile ∷ decimal dim ∷ dir_word dir ∷ bit_word bit ∷ decimal number ∷ []
kind_words Ejection tile number = codes "eject" ∷ decimal tile ∷ decimal number ∷ []

-- the line of a channel of a route, with its number
abbrev pub channel_line : Shape → Channel → List ℕ
channel_line s x = line_of (kind_words x.kind x.tile (number_of s x))

-- the lines of a route, channel by channel
abbrev pub route_lines : Shape → ℕ → ℕ → Class → List ℕ
route_lines s src dst class = flat_map (channel_line s) (route_of s src dst class)

-- the line of the channel that stands at a place among those of its tile, with its number
abbrev pub place_line : ℕ → ℕ → ℕ → List ℕ
place_line tile place number =
    line_of (codes "channel" ∷ decimal tile ∷ decimal place ∷ decimal number ∷ [])

-- the line of channel i of the channel order, where these are the numbers of all
abbrev pub order_line : Shape → List ℕ → ℕ → List ℕ
order_line s numbers i = place_line (i / channels_at_tile s) (i % channels_at_tile s)
    (slice_index numbers i)

-- the lines of the first channels of the channel order
abbrev pub order_lines : Shape → List ℕ → ℕ → List (List ℕ)
order_lines s numbers count = map (order_line s numbers) (range_with_len 0 count)

-- the lines of all channels
abbrev pub all_lines : Shape → List ℕ → List ℕ
all_lines s numbers = flat_map (λ line. line) (order_lines s numbers (channel_count s))

-- the lines of all channels, and one that says that their numbers rise along every route
abbrev pub channels_lines : Shape → List ℕ → List ℕ
channels_lines s numbers = all_lines s numbers ++ codes "rising\n"

-- a text has the lines of all channels, whatever numbers these are, and says that they rise exactly
-- where they do
pub record IsNumbersText (s : Shape) (numbers text : List ℕ) : Type 0 where
  pub rising : IsRising s numbers → text ≡ channels_lines s numbers
  pub falling : (IsRising s numbers → ⊥) → text ≡ all_lines s numbers
