-- Lines that are made of words (this project's own format).
use Rattle.std.specs.Prelude.{ℕ, List, [], ◌∷◌, ◌++◌}
use Rattle.std.specs.List.{join_with_byte, flat_map}

-- words that go on with a line, each after a space
abbrev pub joined_on : List (List ℕ) → List ℕ
joined_on words = flat_map (λ word. 32 ∷ word) words

-- the bytes of a line of words: one space between each two, and a line feed
abbrev pub line_of_words : List (List ℕ) → List ℕ
line_of_words words = join_with_byte 32 words ++ 10 ∷ []
