-- A verdict in which channels have the names that the text of the network gives (this project's own format).
use Rattle.std.specs.Prelude.{ℕ, ◌==◌, ◌||◌, nat_le, not, Bool, if◌then◌else◌}
use Rattle.std.specs.Prelude.{List, [], ◌∷◌, ◌++◌, length, take, drop, slice_get, slice_index_or}
use Rattle.std.specs.Prelude.{unwrap_or, Option, Some, None, codes}
use Rattle.std.specs.Char.{is_ascii_digit}
use Rattle.std.specs.List.{flat_map, position_or_len, slice_split}
use Rattle.std.specs.Str.{bytes_eq}
use Rattle.std.specs.Str.Lines.{lines}
use Rattle.lexer.specs.Numbers.{index_of, is_number}
use Rattle.network_judge.specs.declared.table.Kind.{Kind}
use Rattle.network_judge.specs.declared.table.Kind.TheVariants.{Hop}
use Rattle.network_text.specs.Lines.{first_lines}
use Rattle.network_names.specs.Called.{called}

-- whether a number at word k, from 0 on, of a verdict's line that begins with this word is a channel:
-- `number X N`, `dead X`, `round J X`, `no route I J: WHY`, `no choice X J Y: WHY`, `fill I J STEP` or,
-- where routers choose, `fill J PATH`; and each number of a line that begins with one, `X to J over PATH`
abbrev pub is_channel_at : Bool → List ℕ → ℕ → Bool
is_channel_at chosen word k =
    if bytes_eq word (codes "number") then nat_le k 1
    else (if bytes_eq word (codes "dead") then nat_le k 1
    else (if bytes_eq word (codes "round") then nat_le k 2
    else (if bytes_eq word (codes "no") then nat_le k 4
    else (if bytes_eq word (codes "fill") then chosen || nat_le k 2
    else is_number word))))

-- a name in brackets, behind a space; nothing where there is none
abbrev pub bracketed : List ℕ → List ℕ
bracketed [] = []
bracketed (c ∷ cs) = codes " (" ++ ((c ∷ cs) ++ codes ")")

-- what a text of these lines calls a channel, in brackets
abbrev pub title_of : ℕ → List (List ℕ) → List Kind → Option ℕ → List ℕ
title_of room lines kinds None = []
title_of room lines kinds (Some x) =
    bracketed (called room lines (unwrap_or (slice_get kinds x) Hop) x)

-- how many digits a word begins with
abbrev pub digits_of : List ℕ → ℕ
digits_of word = position_or_len (λ c. not (is_ascii_digit c)) word

-- a word with the title of the channel whose number it begins with, behind that number
abbrev pub titled : (Option ℕ → List ℕ) → List ℕ → List ℕ
titled title word =
    take (digits_of word) word
    ++ (title (index_of (take (digits_of word) word)) ++ drop (digits_of word) word)

-- the word at a place of a line, with its title if it is a channel there, behind a space but for the first
abbrev pub word_at : (Option ℕ → List ℕ) → Bool → List (List ℕ) → ℕ → List ℕ
word_at title chosen words k =
    (if k == 0 then [] else codes " ")
    ++ (if is_channel_at chosen (slice_index_or words 0 []) k
    then titled title (slice_index_or words k []) else slice_index_or words k [])

-- the words of a line, and behind them a line feed
abbrev pub words_line : (Option ℕ → List ℕ) → Bool → List (List ℕ) → List ℕ
words_line title chosen words = first_lines (word_at title chosen words) (length words) ++ codes "\n"

-- a line of a verdict with titles
abbrev pub named_line : (Option ℕ → List ℕ) → Bool → List ℕ → List ℕ
named_line title chosen line = words_line title chosen (slice_split (λ c. c == 32) line)

-- a verdict, and behind each number of a channel what a text of these lines calls it
abbrev pub named_verdict : ℕ → List (List ℕ) → List Kind → Bool → List ℕ → List ℕ
named_verdict room lines_of_text kinds chosen verdict =
    flat_map (named_line (title_of room lines_of_text kinds) chosen) (lines verdict)
