-- What the words of a line spell (this project's own formats).
use Rattle.std.specs.Prelude.{ℕ, List, [], ◌∷◌, unwrap_or}
use Rattle.lexer.specs.Numbers.{index_of, value_of}

-- the number that a word spells, 2 ^ 31 from there on; 0 for any other word
abbrev pub index_or_zero : List ℕ → ℕ
index_or_zero word = unwrap_or (index_of word) 0

-- the number that the first of some words spells
abbrev pub first_index : List (List ℕ) → ℕ
first_index [] = 0
first_index (a ∷ more) = index_or_zero a

-- the number that the second of some words spells
abbrev pub second_index : List (List ℕ) → ℕ
second_index [] = 0
second_index (a ∷ []) = 0
second_index (a ∷ b ∷ more) = index_or_zero b

-- the number that a word spells, 2 ^ 64 from there on; 0 for any other word
abbrev pub value_or_zero : List ℕ → ℕ
value_or_zero word = unwrap_or (value_of word) 0

-- the number up to 2 ^ 64 that the first of some words spells
abbrev pub first_value : List (List ℕ) → ℕ
first_value [] = 0
first_value (a ∷ more) = value_or_zero a

-- the number up to 2 ^ 64 that the second of some words spells
abbrev pub second_value : List (List ℕ) → ℕ
second_value [] = 0
second_value (a ∷ []) = 0
second_value (a ∷ b ∷ more) = value_or_zero b
