-- How many there are of each number.
use Rattle.std.specs.Prelude.{ℕ, List, unwrap_or}
use Rattle.trace_lines.specs.Head.{value_in}

-- the count of a number in a list of numbers with a count each; 0 where it has none
abbrev pub count_in : List (ℕ × ℕ) → ℕ → ℕ
count_in counts number = unwrap_or (value_in counts number) 0
