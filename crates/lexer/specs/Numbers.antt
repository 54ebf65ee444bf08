-- The numbers that words spell.
use Rattle.std.specs.Prelude.{ℕ, Bool, ◌==◌, ◌^◌, ◌&&◌, not, List, length, Option, Some, None, min, if◌then◌else◌}
use Rattle.std.specs.Str.{all_ascii_digits}
use Rattle.std.specs.Str.Parse.{digits_value}

-- a word of decimal digits alone, of any length (this project's own format)
abbrev pub is_number : List ℕ → Bool
is_number word = not (length word == 0) && all_ascii_digits word

-- the number that a word spells in decimal; from most on, which no field takes, they count as one
abbrev pub number_upto : ℕ → List ℕ → Option ℕ
number_upto most word = if is_number word then Some (min (digits_value 10 word) most) else None

-- the number of a field that takes less than 2 ^ 31: a radix, a count, a tile, an address
abbrev pub index_of : List ℕ → Option ℕ
index_of = number_upto (2 ^ 31)

-- the number of a field that takes less than 2 ^ 64: a word of the memory
abbrev pub value_of : List ℕ → Option ℕ
value_of = number_upto (2 ^ 64)
