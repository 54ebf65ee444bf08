-- The trace text of rows that stand in the order of their issues (this project's own format).
use Rattle.std.specs.Prelude.{◌≡◌, ℕ, ◌+◌, ◌==◌, max, Bool, true, false, List, [], ◌∷◌, ◌++◌}
use Rattle.std.specs.Prelude.{take}
use Rattle.std.specs.Prelude.{Option, Some, None, codes, count_by, decimal, slice_get}
use Rattle.std.specs.List.{flat_map}
use Rattle.packet.specs.declared.kinds.Reply.{Reply}
use Rattle.lexer.specs.Joined.{joined_on}
use Rattle.report_lines.specs.Line.{op_words, reply_word}
use Rattle.trace_table.specs.declared.moment.Moment.{Moment}
use Rattle.trace_table.specs.declared.row.TableRow.{TableRow}
use Rattle.trace_table.specs.declared.row.TimedReply.{TimedReply}

-- how many of the first rows a processor has: the index of its next operation
abbrev pub own_index : List TableRow → ℕ → ℕ → ℕ
own_index rows processor number = count_by (λ row. row.processor == processor) (take number rows)

-- these are the indexes of rows among those of their processors
pub record AreOwnIndexes (rows : List TableRow) (indexes : List ℕ) : Type 0 where
  pub each : (number : ℕ) (row : TableRow) → slice_get rows number ≡ Some row
      → slice_get indexes number ≡ Some (own_index rows row.processor number)

-- the words of the memory: enough for each address, and at least so many
abbrev pub words_from : ℕ → List TableRow → ℕ
words_from words [] = words
words_from words (row ∷ rows) = words_from (max words (row.operation.address + 1)) rows

-- enough for each address, and at least one
abbrev pub words_needed : List TableRow → ℕ
words_needed rows = words_from 1 rows

-- the line of an issue
abbrev pub issue_text : TableRow → List ℕ
issue_text row = codes "issue" ++ (32 ∷ decimal row.processor)
    ++ joined_on (op_words row.operation.op row.operation.address []) ++ 10 ∷ []

-- the line of an answer to the operation of a processor that has this index
abbrev pub answer_text : ℕ → ℕ → Reply → List ℕ
answer_text processor index reply = codes "answer" ++ (32 ∷ decimal processor)
    ++ (32 ∷ decimal index) ++ (32 ∷ reply_word reply) ++ 10 ∷ []

-- the line of the answer to a row, where it is answered
abbrev pub row_answer_text : ℕ → ℕ → Option TimedReply → List ℕ
row_answer_text processor index None = []
row_answer_text processor index (Some answer) = answer_text processor index answer.reply

-- the line of an issue of a row, or of its answer
abbrev pub row_text : List TableRow → Bool → ℕ → TableRow → List ℕ
row_text rows false number row = issue_text row
row_text rows true number row =
    row_answer_text row.processor (own_index rows row.processor number) row.answer

-- the line of a moment of some row; nothing where there is no such row
abbrev pub found_text : List TableRow → Bool → ℕ → Option TableRow → List ℕ
found_text rows is_answer number None = []
found_text rows is_answer number (Some row) = row_text rows is_answer number row

abbrev pub moment_text : List TableRow → Moment → List ℕ
moment_text rows m = found_text rows m.is_answer m.row (slice_get rows m.row)

-- the lines of moments
abbrev pub moments_text : List TableRow → List Moment → List ℕ
moments_text rows moments = flat_map (moment_text rows) moments

-- the trace text of rows and moments
abbrev pub table_text : List TableRow → List Moment → List ℕ
table_text rows moments = codes "trace 1\nwords" ++ (32 ∷ decimal (words_needed rows)) ++ 10 ∷ []
    ++ moments_text rows moments
