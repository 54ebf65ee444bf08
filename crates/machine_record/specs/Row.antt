-- A line that a processor is handed, as numbers (this project's own format).
use Rattle.std.specs.Prelude.{ℕ, ◌+◌, ◌*◌, ◌==◌, ◌||◌, Bool, nat_lt, List, [], ◌∷◌, Option, Some, None}
use Rattle.std.specs.Prelude.{if◌then◌else◌, slice_get}
use Rattle.script_lines.specs.declared.line.Line.{Line}
use Rattle.script_lines.specs.declared.line.Line.TheVariants as line
use Rattle.script_lines.specs.declared.line.Value.{Value}
use Rattle.script_lines.specs.declared.line.Value.TheVariants.{Number, Last}
use Rattle.machine_record.specs.declared.row.LineRow.{LineRow}

-- 1 where a value is `last`, else 0
abbrev pub last_bit : Value → ℕ
last_bit Last = 1
last_bit (Number n) = 0

-- the number of a value; 0 for `last`
abbrev pub number_of_value : Value → ℕ
number_of_value Last = 0
number_of_value (Number n) = n

-- the row of a processor, a kind, an address and two values: the lowest bit of `lasts` says whether the
-- first is `last`, the next bit whether the second is
abbrev pub row_with : ℕ → ℕ → ℕ → Value → Value → LineRow
row_with p kind address one two = record {
  processor = p;
  operation = kind;
  address = address;
  lasts = last_bit one + 2 * last_bit two;
  first = number_of_value one;
  second = number_of_value two;
}

-- the row of a line that a processor is handed; a value that the line has not is 0
abbrev pub row_of_line : ℕ → Line → LineRow
row_of_line p (line.Load a) = row_with p 0 a (Number 0) (Number 0)
row_of_line p (line.Store a v) = row_with p 1 a v (Number 0)
row_of_line p (line.Swap a v) = row_with p 2 a v (Number 0)
row_of_line p (line.Cas a e n) = row_with p 3 a e n
row_of_line p (line.Add a v) = row_with p 4 a v (Number 0)
row_of_line p (line.And a v) = row_with p 5 a v (Number 0)
row_of_line p (line.Or a v) = row_with p 6 a v (Number 0)
row_of_line p (line.Xor a v) = row_with p 7 a v (Number 0)
row_of_line p (line.Max a v) = row_with p 8 a v (Number 0)
row_of_line p (line.Min a v) = row_with p 9 a v (Number 0)
row_of_line p line.Fence = row_with p 10 0 (Number 0) (Number 0)
row_of_line p (line.Spin a v m) = row_with p 11 a (Number v) (Number m)

-- a value: a number, or `last`
abbrev pub value_of_number : Bool → ℕ → Value
value_of_number is_last number = if is_last then Last else Number number

-- which of the two values are `last`
abbrev pub first_is_last : ℕ → Bool
first_is_last lasts = (lasts == 1) || (lasts == 3)

abbrev pub second_is_last : ℕ → Bool
second_is_last lasts = (lasts == 2) || (lasts == 3)

-- a spin of so many loads, which are a number of 32 bits
abbrev pub spin_of : ℕ → ℕ → ℕ → Option Line
spin_of address sought loads =
    if nat_lt loads 4294967296 then Some (line.Spin address sought loads) else None

-- the lines by their kinds, but for a spin
abbrev pub plain_lines : ℕ → Value → Value → List Line
plain_lines a one two =
    line.Load a ∷ line.Store a one ∷ line.Swap a one ∷ line.Cas a one two ∷ line.Add a one
    ∷ line.And a one ∷ line.Or a one ∷ line.Xor a one ∷ line.Max a one ∷ line.Min a one
    ∷ line.Fence ∷ []

-- the line of a kind
abbrev pub line_numbered : ℕ → ℕ → Value → Value → ℕ → ℕ → Option Line
line_numbered kind address one two sought loads =
    if kind == 11 then spin_of address sought loads else slice_get (plain_lines address one two) kind

-- the line of a row, if it is one
abbrev pub line_of_row : LineRow → Option Line
line_of_row row =
    line_numbered row.operation row.address (value_of_number (first_is_last row.lasts) row.first)
    (value_of_number (second_is_last row.lasts) row.second) row.first row.second
