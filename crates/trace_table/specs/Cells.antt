-- The cells of a line of a table: comma-separated values without quotes (RFC 4180), or values with
-- semicolons or tabs between them.
use Rattle.std.specs.Prelude.{ℕ, ◌==◌, ◌&&◌, Bool, not, nat_lt, List, [], drop, length, slice_index}
use Rattle.std.specs.Prelude.{if◌then◌else◌}
use Rattle.std.specs.List.{list_any, slice_index_or, slice_split}
use Rattle.lexer.specs.Words.{is_blank}

-- what parts the cells of a table whose first line this is: a comma where it has one, else a
-- semicolon where it has one, else a tab
abbrev pub separator_of : List ℕ → ℕ
separator_of line =
    if list_any (λ c. c == 44) line then 44
    else if list_any (λ c. c == 59) line then 59 else 9

-- the cells of a line: the parts between separators
abbrev pub table_cells : ℕ → List ℕ → List (List ℕ)
table_cells separator line = slice_split (λ c. c == separator) line

-- the cell at a place, empty where there is none
abbrev pub cell_in : List (List ℕ) → ℕ → List ℕ
cell_in cells place = slice_index_or cells place []

-- a line has a quote
abbrev pub has_quote : List ℕ → Bool
has_quote line = list_any (λ c. c == 34) line

-- a line has something beside blanks and separators
abbrev pub is_in_cell : ℕ → ℕ → Bool
is_in_cell separator c = not (is_blank c) && not (c == separator)

abbrev pub has_cells : ℕ → List ℕ → Bool
has_cells separator line = list_any (is_in_cell separator) line

-- a text begins with the mark of UTF-8 (Unicode, 23.8, "Byte Order Mark")
abbrev pub is_marked_text : List ℕ → Bool
is_marked_text line = nat_lt 2 (length line)
    && (slice_index line 0 == 239) && (slice_index line 1 == 187) && (slice_index line 2 == 191)

-- a first line without that mark
abbrev pub without_mark : List ℕ → List ℕ
without_mark line = if is_marked_text line then drop 3 line else line
