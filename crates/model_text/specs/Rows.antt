-- Rows of numbers.
use Rattle.std.specs.Prelude.{ℕ, List, [], ◌∷◌, ◌++◌, replicate, slice_set}
use Rattle.std.specs.List.{slice_index_or}

-- so many rows without a number
abbrev pub no_rows : ℕ → List (List ℕ)
no_rows count = replicate count []

-- the numbers of a row, none where there is no such row
abbrev pub numbers_of_row : List (List ℕ) → ℕ → List ℕ
numbers_of_row rows k = slice_index_or rows k []

-- these rows, and one number more at the end of a row
abbrev pub with_row_number : List (List ℕ) → ℕ → ℕ → List (List ℕ)
with_row_number rows k number = slice_set rows k (numbers_of_row rows k ++ number ∷ [])
