-- The rows of the order of operations as lines (this project's own format).
use Rattle.std.specs.Prelude.{ℕ, List, [], ◌∷◌, ◌++◌, codes, decimal, flat_map, length}
use Rattle.report_lines.specs.Line.{event_word}
use Rattle.one_order.specs.declared.ordered.Ordered.{Ordered}
use Rattle.command_live.specs.declared.told.Told.TheVariants as told
use Rattle.command_live.specs.Text.{spaced, told_text}

-- the line of a row: that of a report, and which operation of which processor it is
abbrev pub row_line : Ordered → List ℕ
row_line row =
    codes "order" ++ spaced (decimal row.bank) ++ spaced (decimal row.place)
    ++ spaced (decimal row.issued) ++ spaced (decimal row.served)
    ++ spaced (event_word row.answered) ++ spaced (decimal row.source)
    ++ spaced (decimal row.index) ++ 10 ∷ []

-- how many rows there are, and their lines
abbrev pub rows_text : List Ordered → List ℕ
rows_text rows = told_text (told.Rows (length rows)) ++ flat_map row_line rows
