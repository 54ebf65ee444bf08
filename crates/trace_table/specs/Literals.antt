-- Whole numbers as programs, chips and data frames write them: in decimal, hexadecimal or binary,
-- with `_` between digits (PEP 515, Underscores in Numeric Literals), a `+` in front or a fraction
-- of zeros behind.
use Rattle.std.specs.Prelude.{ℕ, ◌+◌, ◌*◌, ◌^◌, ◌==◌, ◌&&◌, ◌||◌, not, nat_lt, Bool, false, List, [], ◌∷◌}
use Rattle.std.specs.Prelude.{Option, Some, None, decimal, drop, length, min, position, take}
use Rattle.std.specs.Prelude.{if◌then◌else◌}
use Rattle.std.specs.Char.{digit_value}
use Rattle.std.specs.List.{filter, list_all}
use Rattle.std.specs.Str.Parse.{digits_value, without_leading_plus}

-- a byte is a digit of a radix
abbrev pub is_digit_of : ℕ → ℕ → Bool
is_digit_of radix c = nat_lt (digit_value c) radix

-- a byte may come next: a digit, or a `_` right behind one
abbrev pub may_come : ℕ → Bool → ℕ → Bool
may_come radix is_behind c = if c == 95 then is_behind else is_digit_of radix c

-- digits of a radix, each `_` between two of them; they may go on behind a digit, and end there
abbrev pub are_grouped : ℕ → Bool → List ℕ → Bool
are_grouped radix is_behind [] = is_behind
are_grouped radix is_behind (c ∷ cs) =
    may_come radix is_behind c && are_grouped radix (not (c == 95)) cs

-- the digits among some bytes
abbrev pub digits_among : ℕ → List ℕ → List ℕ
digits_among radix word = filter (is_digit_of radix) word

-- a number with one more digit, if the byte is one; from 2^64 on they count as one
abbrev pub digit_taken : ℕ → ℕ → ℕ → ℕ
digit_taken radix n c =
    if is_digit_of radix c then min (n * radix + digit_value c) (2 ^ 64) else n

-- with the digits of some bytes, one by one
abbrev pub digits_taken : ℕ → ℕ → List ℕ → ℕ
digits_taken radix n [] = n
digits_taken radix n (c ∷ cs) = digits_taken radix (digit_taken radix n c) cs

-- the number that digits of a radix spell; from 2^64 on they count as one
abbrev pub grouped_number : ℕ → List ℕ → Option ℕ
grouped_number radix word =
    if are_grouped radix false word
    then Some (min (digits_value radix (digits_among radix word)) (2 ^ 64))
    else None

-- a point, and one zero or more
abbrev pub is_zero_fraction : List ℕ → Bool
is_zero_fraction word = nat_lt 1 (length word) && list_all (λ c. c == 48) (drop 1 word)

-- what stands before a fraction of zeros at this place
abbrev pub whole_before : List ℕ → Option ℕ → List ℕ
whole_before word None = word
whole_before word (Some place) =
    if is_zero_fraction (drop place word) then take place word else word

-- a word without a fraction of zeros
abbrev pub whole_part : List ℕ → List ℕ
whole_part word = whole_before word (position (λ c. c == 46) word)

-- the radix that a letter behind a zero names: 16 by `x`, 2 by `b`
abbrev pub radix_named : ℕ → ℕ
radix_named c = if c == 120 || c == 88 then 16 else if c == 98 || c == 66 then 2 else 10

-- the radix of a word
abbrev pub spelled_radix : List ℕ → ℕ
spelled_radix [] = 10
spelled_radix (first ∷ []) = 10
spelled_radix (first ∷ c ∷ cs) = if first == 48 then radix_named c else 10

-- the number of a word without a sign
abbrev pub unsigned_number : List ℕ → Option ℕ
unsigned_number word =
    if spelled_radix word == 10 then grouped_number 10 (whole_part word)
    else grouped_number (spelled_radix word) (drop 2 word)

-- the number that a word of a table spells; from 2^64 on they count as one
abbrev pub literal : List ℕ → Option ℕ
literal word = unsigned_number (without_leading_plus word)

-- the decimal digits of a number, or the word
abbrev pub digits_or : List ℕ → Option ℕ → List ℕ
digits_or word None = word
digits_or word (Some n) = decimal n

-- a word of a table as a trace text has it: a number in decimal
unfoldable pub plain_word : List ℕ → List ℕ
plain_word word = digits_or word (literal word)
