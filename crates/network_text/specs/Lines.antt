-- Lists that are made piece by piece.
use Rattle.std.specs.Prelude.{ℕ, List}
use Rattle.std.specs.List.{flat_map, range_with_len}

-- the lines of the first n
abbrev pub first_lines : (ℕ → List ℕ) → ℕ → List ℕ
first_lines line n = flat_map line (range_with_len 0 n)
