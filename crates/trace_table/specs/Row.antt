-- A row of a table: an operation, and when it was issued and answered (this project's own format).
use Rattle.std.specs.Prelude.{ℕ, ◌^◌, nat_lt, List, [], ◌∷◌, Option, Some, None, Result, Ok, Err}
use Rattle.std.specs.Prelude.{Bool, ◌||◌, codes, map, option_map, if◌then◌else◌}
use Rattle.std.specs.Str.{str_eq_ignore_ascii_case}
use Rattle.packet.specs.declared.kinds.Code.{Code}
use Rattle.packet.specs.declared.kinds.Op.{Op}
use Rattle.packet.specs.declared.kinds.Op.TheVariants.{Load, Store, Swap, Cas, Add, And, Or, Xor, Max, Min}
use Rattle.packet.specs.declared.kinds.Operation.{Operation}
use Rattle.packet.specs.declared.kinds.Reply.{Reply}
use Rattle.packet.specs.declared.kinds.Reply.TheVariants.{Old}
use Rattle.packet.specs.Kinds.{code_of}
use Rattle.lexer.specs.Words.{first_words}
use Rattle.lexer.specs.Outcome.{◌>>=◌}
use Rattle.trace_lines.specs.Form.{form_operation, reply_read, spelled_form, told_of}
use Rattle.trace_lines.specs.Form.{unwanted_reply}
use Rattle.trace_lines.specs.Reasons.{map_err, unless_refused}
use Rattle.trace_table.specs.declared.column.Column.{Column}
use Rattle.trace_table.specs.declared.column.Column.TheVariants as column
use Rattle.trace_table.specs.declared.column.Columns.{Columns}
use Rattle.trace_table.specs.declared.reason.TableReason.{TableReason}
use Rattle.trace_table.specs.declared.reason.TableReason.TheVariants as reason
use Rattle.trace_table.specs.declared.row.TableRow.{TableRow}
use Rattle.trace_table.specs.declared.row.TimedReply.{TimedReply}
use Rattle.trace_table.specs.Cells.{cell_in}
use Rattle.trace_table.specs.Literals.{literal, plain_word}

-- the one word of a cell's words
abbrev pub one_word : Column → List (List ℕ) → Result (List ℕ) TableReason
one_word c [] = Err (reason.Cell c)
one_word c (word ∷ []) = Ok word
one_word c (word ∷ other ∷ more) = Err (reason.Cell c)

-- a number below a limit, where it is one
abbrev pub limited_cell : Column → ℕ → Option ℕ → Result ℕ TableReason
limited_cell c most None = Err (reason.Cell c)
limited_cell c most (Some n) = if nat_lt n most then Ok n else Err (reason.Cell c)

-- a processor is a number below 4096
abbrev pub processor_in_cell : List ℕ → Result ℕ TableReason
processor_in_cell cell =
    one_word column.Processor (first_words cell) >>= λ word.
    limited_cell column.Processor 4096 (literal word)

-- a time is a whole number below 2^64
abbrev pub row_time : Column → Option ℕ → Result (Option ℕ) TableReason
row_time c spelled = limited_cell c (2 ^ 64) spelled >>= λ time. Ok (Some time)

-- the time of a cell; none where the cell is empty
abbrev pub time_in : Column → List (List ℕ) → Result (Option ℕ) TableReason
time_in c [] = Ok None
time_in c (word ∷ []) = row_time c (literal word)
time_in c (word ∷ other ∷ more) = Err (reason.Cell c)

abbrev pub time_in_cell : Column → List ℕ → Result (Option ℕ) TableReason
time_in_cell c cell = time_in c (first_words cell)

-- a time that must be there
abbrev pub required_time : Column → Option ℕ → Result ℕ TableReason
required_time c None = Err (reason.Cell c)
required_time c (Some time) = Ok time

-- the operation of a word, an address and values, as in a trace text of 2^32 words, but that numbers
-- may be spelled otherwise
abbrev pub operation_with : List ℕ → List ℕ → List (List ℕ) → Result Operation TableReason
operation_with word address values =
    map_err reason.Line (spelled_form word (plain_word address ∷ map plain_word values)) >>= λ form.
    map_err reason.Line (form_operation (2 ^ 32) form)

-- the operation of three cells
abbrev pub operation_in_cells : List ℕ → List ℕ → List ℕ → Result Operation TableReason
operation_in_cells word address values =
    one_word column.Operation (first_words word) >>= λ word.
    one_word column.Address (first_words address) >>= λ address.
    operation_with word address (first_words values)

-- the reply of a word to an operation of a code, as in a trace text, but that a number may be spelled
-- otherwise
abbrev pub reply_of_word : Code → List ℕ → Result Reply TableReason
reply_of_word code word =
    map_err reason.Line (told_of (plain_word word)) >>= λ told.
    unless_refused (option_map reason.Line (unwanted_reply code told))
    (map_err reason.Line (reply_read told))

-- the word that a cas expects; no other operation expects one
abbrev pub word_expected : Op → Option ℕ
word_expected Load = None
word_expected (Store v) = None
word_expected (Swap v) = None
word_expected (Cas e n) = Some e
word_expected (Add v) = None
word_expected (And v) = None
word_expected (Or v) = None
word_expected (Xor v) = None
word_expected (Max v) = None
word_expected (Min v) = None

-- by these words, in small or large letters, a cas says that it found the word that it expected
abbrev pub says_found : List ℕ → Bool
says_found word = str_eq_ignore_ascii_case word (codes "true")
    || str_eq_ignore_ascii_case word (codes "ok")

-- by these words, in small or large letters, a cas says that it found another one, but not which
abbrev pub says_another : List ℕ → Bool
says_another word = str_eq_ignore_ascii_case word (codes "false")
    || str_eq_ignore_ascii_case word (codes "fail")

-- the reply of a word to an operation of a code, which may expect a word
abbrev pub reply_expected : Code → Option ℕ → List ℕ → Result Reply TableReason
reply_expected code None word = reply_of_word code word
reply_expected code (Some e) word =
    if says_found word then Ok (Old e)
    else if says_another word then Err reason.FoundUnnamed else reply_of_word code word

abbrev pub reply_in_cell : Op → List ℕ → Result Reply TableReason
reply_in_cell op cell =
    one_word column.Reply (first_words cell) >>= reply_expected (code_of op) (word_expected op)

-- an answer comes at its issue or later; without a time there is none, and its reply is passed over
abbrev pub answer_in_cell : Op → ℕ → Option ℕ → List ℕ → Result (Option TimedReply) TableReason
answer_in_cell op issued None cell = Ok None
answer_in_cell op issued (Some time) cell =
    if nat_lt time issued then Err reason.Backwards
    else (reply_in_cell op cell >>= λ reply. Ok (Some (record { reply = reply; time = time })))

-- the row of a line's cells, of which the first bad one is refused
abbrev pub row_of_cells : ℕ → Columns → List (List ℕ) → Result TableRow TableReason
row_of_cells line columns cells =
    processor_in_cell (cell_in cells columns.processor) >>= λ processor.
    operation_in_cells (cell_in cells columns.operation) (cell_in cells columns.address)
    (cell_in cells columns.values) >>= λ operation.
    time_in_cell column.Issued (cell_in cells columns.issued) >>= λ found.
    required_time column.Issued found >>= λ issued.
    time_in_cell column.Answered (cell_in cells columns.answered) >>= λ answered.
    answer_in_cell operation.op issued answered (cell_in cells columns.reply) >>= λ answer.
    Ok (record {
      line = line;
      processor = processor;
      operation = operation;
      issued = issued;
      answer = answer;
    })

-- the processor of a row; 0 where there is none
abbrev pub processor_in : Option TableRow → ℕ
processor_in None = 0
processor_in (Some row) = row.processor
