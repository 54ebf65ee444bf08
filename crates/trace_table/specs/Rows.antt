-- The rows of a table, or where and why it is refused (this project's own format).
use Rattle.std.specs.Prelude.{ℕ, ◌+◌, ◌^◌, ◌==◌, not, nat_lt, List, [], ◌∷◌, ◌++◌, length, Result}
use Rattle.std.specs.Prelude.{Ok, Err}
use Rattle.std.specs.Prelude.{if◌then◌else◌}
use Rattle.lexer.specs.declared.refusal.Refusal.{Refusal}
use Rattle.lexer.specs.Outcome.{◌>>=◌, refusal_at, then_lines}
use Rattle.trace_table.specs.declared.column.Column.TheVariants as column
use Rattle.trace_table.specs.declared.column.Columns.{Columns}
use Rattle.trace_table.specs.declared.reason.TableReason.{TableReason}
use Rattle.trace_table.specs.declared.reason.TableReason.TheVariants as reason
use Rattle.trace_table.specs.declared.row.TableRow.{TableRow}
use Rattle.trace_table.specs.Cells.{table_cells, has_cells, has_quote, separator_of, without_mark}
use Rattle.trace_table.specs.Columns.{named_columns}
use Rattle.trace_table.specs.Row.{row_of_cells}

-- the columns that a first line names, which may have a mark in front
abbrev pub head_columns : List ℕ → Result Columns TableReason
head_columns line =
    if has_quote line then Err reason.Quote
    else named_columns (separator_of line) (table_cells (separator_of line) (without_mark line))

-- one row more: a cell for each column, and no more than 2^22 rows
abbrev pub after_cells :
    Columns → List TableRow → ℕ → List (List ℕ) → Result (List TableRow) TableReason
after_cells columns rows number cells =
    if not (length cells == columns.count) then Err reason.CellCount
    else (if not (nat_lt (length rows) (2 ^ 22)) then Err reason.OperationsLimits
    else (row_of_cells number columns cells >>= λ row. Ok (rows ++ row ∷ [])))

-- what a line behind the first one makes of the rows before it; one without cells is skipped
abbrev pub after_row_line :
    Columns → List TableRow → ℕ → List ℕ → Result (List TableRow) TableReason
after_row_line columns rows number line =
    if not (has_cells columns.separator line) then Ok rows
    else (if has_quote line then Err reason.Quote
    else after_cells columns rows number (table_cells columns.separator line))

-- the rows of these lines, of which the first has this number, behind others
abbrev pub table_rows_from :
    Columns → List TableRow → ℕ → List (List ℕ) → Result (List TableRow) (Refusal TableReason)
table_rows_from columns rows number [] = Ok rows
table_rows_from columns rows number (line ∷ lines) =
    then_lines number (after_row_line columns rows number line)
    (λ next. table_rows_from columns next (number + 1) lines)

-- the rows of a table, given as the list of its lines, or where and why it is refused
abbrev pub table_rows : List (List ℕ) → Result (List TableRow) (Refusal TableReason)
table_rows [] = Err (refusal_at 1 (reason.Missing column.Processor))
table_rows (head ∷ lines) =
    then_lines 1 (head_columns head) (λ columns. table_rows_from columns [] 2 lines)
