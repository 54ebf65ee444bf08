-- Of each processor the numbers of its operations.
use Rattle.std.specs.Prelude.{ℕ, List, [], ◌∷◌, ◌++◌, replicate, slice_set}
use Rattle.std.specs.List.{slice_index_or}

-- of each of 4096 processors none
abbrev pub no_numbers : List (List ℕ)
no_numbers = replicate 4096 []

-- the numbers of the operations of a processor, in the order of issue
abbrev pub numbers_of : List (List ℕ) → ℕ → List ℕ
numbers_of numbers p = slice_index_or numbers p []

-- these, and the number of one operation more of a processor
abbrev pub with_number : List (List ℕ) → ℕ → ℕ → List (List ℕ)
with_number numbers p number = slice_set numbers p (numbers_of numbers p ++ number ∷ [])
