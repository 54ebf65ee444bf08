-- The columns of a table, which its first line names (this project's own format).
use Rattle.std.specs.Prelude.{ℕ, Bool, false, List, [], ◌∷◌, length, Option, Result, Ok}
use Rattle.std.specs.Prelude.{ok_or, codes, position}
use Rattle.std.specs.Str.{bytes_eq}
use Rattle.lexer.specs.Words.{first_words}
use Rattle.lexer.specs.Outcome.{◌>>=◌}
use Rattle.trace_table.specs.declared.column.Column.{Column}
use Rattle.trace_table.specs.declared.column.Column.TheVariants as column
use Rattle.trace_table.specs.declared.column.Columns.{Columns}
use Rattle.trace_table.specs.declared.reason.TableReason.{TableReason}
use Rattle.trace_table.specs.declared.reason.TableReason.TheVariants as reason

-- the word that names a column
abbrev pub column_name : Column → List ℕ
column_name column.Processor = codes "processor"
column_name column.Operation = codes "operation"
column_name column.Address = codes "address"
column_name column.Values = codes "values"
column_name column.Reply = codes "reply"
column_name column.Issued = codes "issued"
column_name column.Answered = codes "answered"

-- these words are one word, and this one
abbrev pub are_name : List ℕ → List (List ℕ) → Bool
are_name name [] = false
are_name name (word ∷ []) = bytes_eq word name
are_name name (word ∷ other ∷ more) = false

-- a cell is this word
abbrev pub is_named_so : List ℕ → List ℕ → Bool
is_named_so name cell = are_name name (first_words cell)

-- the place of the first cell that is this word
abbrev pub column_place : List ℕ → List (List ℕ) → Option ℕ
column_place name cells = position (is_named_so name) cells

-- the place of a column, which some cell names
abbrev pub place_or_why : Column → List (List ℕ) → Result ℕ TableReason
place_or_why c cells = ok_or (column_place (column_name c) cells) (reason.Missing c)

-- the columns that some cells name, which have this between them: all of them must be named
abbrev pub named_columns : ℕ → List (List ℕ) → Result Columns TableReason
named_columns separator cells =
    place_or_why column.Processor cells >>= λ processor.
    place_or_why column.Operation cells >>= λ operation.
    place_or_why column.Address cells >>= λ address.
    place_or_why column.Values cells >>= λ values.
    place_or_why column.Reply cells >>= λ reply.
    place_or_why column.Issued cells >>= λ issued.
    place_or_why column.Answered cells >>= λ answered.
    Ok (record {
      separator = separator;
      count = length cells;
      processor = processor;
      operation = operation;
      address = address;
      values = values;
      reply = reply;
      issued = issued;
      answered = answered;
    })
