-- The words of a line. The lines of a text are those of std (`Str.Lines.lines`).
use Rattle.std.specs.Prelude.{ℕ, ◌+◌, Bool, false, ◌||◌, ◌==◌, not, List, [], ◌∷◌, length, filter, take}
use Rattle.std.specs.Prelude.{Option, Some, None, if◌then◌else◌}
use Rattle.std.specs.List.{slice_split}

-- a space or a tab: words stand between them (this project's own format)
abbrev pub is_blank : ℕ → Bool
is_blank c = (c == 32) || (c == 9)

-- the words of a line: the parts between blanks that are not empty (this project's own format)
abbrev pub words_of : List ℕ → List (List ℕ)
words_of line = filter (λ word. not (length word == 0)) (slice_split is_blank line)

-- the first word of a comment begins with `#` (this project's own format); a line counts that has a
-- word and is none
abbrev pub begins_comment : List ℕ → Bool
begins_comment [] = false
begins_comment (c ∷ cs) = c == 35

-- the first words of a line; a line that means something has fewer, comments apart
abbrev pub first_words : List ℕ → List (List ℕ)
first_words line = take 7 (words_of line)

-- the line of a number, where these lines count from another number
abbrev pub line_at : ℕ → ℕ → List (List ℕ) → Option (List ℕ)
line_at wanted at [] = None
line_at wanted at (line ∷ lines) = if at == wanted then Some line else line_at wanted (at + 1) lines
