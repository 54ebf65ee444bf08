-- Which lines the report of given contents has (this project's own format).
use Rattle.std.specs.Prelude.{ℕ, ◌+◌, ◌==◌, List, [], ◌∷◌, ◌++◌, Bool, true, false, not, if◌then◌else◌, Option}
use Rattle.std.specs.Prelude.{filter, map, flat_map, fold, max, length, Vec}
use Rattle.std.specs.List.{list_any, enumerate_from, range_with_len, find}
use Rattle.std.specs.Option.{option_to_list}
use Rattle.torus.specs.Shape.{Shape}
use Rattle.packet.specs.declared.kinds.Op.{Op}
use Rattle.packet.specs.declared.kinds.Op.TheVariants.{Load, Store, Swap, Cas, Add, And, Or, Xor, Max, Min}
use Rattle.report_lines.specs.declared.line.Radices.{Radices}
use Rattle.report_lines.specs.declared.line.Radices.TheVariants.{One, Two, Three}
use Rattle.report_lines.specs.declared.line.OrderLine.{OrderLine}
use Rattle.report_lines.specs.declared.line.ReportLine.{ReportLine}
use Rattle.report_lines.specs.declared.line.ReportLine.TheVariants as lines
use Rattle.report_lines.specs.declared.parts.EntryRow.{EntryRow}
use Rattle.report_lines.specs.declared.parts.AnswerRow.{AnswerRow}

-- the lists in a list of vectors
abbrev pub items_of : {X A : Type 0} → List (Vec X A) → List (List X)
items_of vs = map (λ v. v.items) vs

-- whether an operation is one of and, or, xor, max and min
abbrev pub is_newer : Op → Bool
is_newer Load = false
is_newer (Store v) = false
is_newer (Swap v) = false
is_newer (Cas e n) = false
is_newer (Add v) = false
is_newer (And v) = true
is_newer (Or v) = true
is_newer (Xor v) = true
is_newer (Max v) = true
is_newer (Min v) = true

-- the version of the report: 2 exactly when some entry is one of the newer operations, else 1
abbrev pub version_of : List (List EntryRow) → ℕ
version_of entries = if list_any (λ es. list_any (λ e. is_newer e.op) es) entries then 2 else 1

-- the radices of a torus
abbrev pub radices_of : List ℕ → Radices
radices_of [] = One 0
radices_of (k ∷ []) = One k
radices_of (j ∷ k ∷ []) = Two j k
radices_of (j ∷ k ∷ l ∷ _) = Three j k l

-- the words that are not 0, each with its address, from an address on
abbrev pub set_words_from : ℕ → List ℕ → List (ℕ × ℕ)
set_words_from address words = filter (λ w. not (w.1 == 0)) (enumerate_from address words)

-- the words that are not 0, each with its address
abbrev pub set_words : List ℕ → List (ℕ × ℕ)
set_words words = set_words_from 0 words

-- a line for each opening word that is not 0, addresses rising from one on
abbrev pub init_lines_from : ℕ → List ℕ → List ReportLine
init_lines_from address opening = map (λ w. lines.Init w.0 w.1) (set_words_from address opening)

-- a line for each opening word that is not 0, addresses rising
abbrev pub init_lines : List ℕ → List ReportLine
init_lines opening = init_lines_from 0 opening

-- a line for each last word that is not 0, addresses rising from one on
abbrev pub word_lines_from : ℕ → List ℕ → List ReportLine
word_lines_from address last = map (λ w. lines.Word w.0 w.1) (set_words_from address last)

-- a line for each last word that is not 0, addresses rising
abbrev pub word_lines : List ℕ → List ReportLine
word_lines last = word_lines_from 0 last

-- the line of an entry
abbrev pub entry_line : ℕ → ℕ → EntryRow → ReportLine
entry_line bank place e =
    lines.Entry (record {
      bank = bank;
      place = place;
      source = e.source;
      tag = e.tag;
      address = e.address;
      op = e.op;
      reply = e.reply;
    })

-- a line for each entry of a bank, places rising from one on
abbrev pub bank_lines_from : ℕ → ℕ → List EntryRow → List ReportLine
bank_lines_from bank place entries =
    map (λ e. entry_line bank e.0 e.1) (enumerate_from place entries)

-- a line for each entry of a bank, places rising
abbrev pub bank_lines : ℕ → List EntryRow → List ReportLine
bank_lines bank entries = bank_lines_from bank 0 entries

-- a line for each entry, banks rising
abbrev pub entry_lines : List (List EntryRow) → List ReportLine
entry_lines entries = flat_map (λ b. bank_lines b.0 b.1) (enumerate_from 0 entries)

-- the line of an answer
abbrev pub answer_line : ℕ → AnswerRow → ReportLine
answer_line processor a =
    lines.Answer (record {
      processor = processor;
      index = a.index;
      bank = a.bank;
      place = a.place;
      reply = a.reply;
    })

-- one more than the greatest index of some answers, or a number that is greater
abbrev pub counted_indexes : ℕ → List AnswerRow → ℕ
counted_indexes count answers = fold (λ n a. max n (a.index + 1)) count answers

-- one more than the greatest index, or 0
abbrev pub index_count : List AnswerRow → ℕ
index_count answers = counted_indexes 0 answers

-- the answer of an index, where there is one
abbrev pub answer_row_of : List AnswerRow → ℕ → Option AnswerRow
answer_row_of answers index = find (λ a. a.index == index) answers

-- the answers of a processor, indexes rising
abbrev pub by_index : List AnswerRow → List AnswerRow
by_index answers = flat_map (λ i. option_to_list (answer_row_of answers i))
    (range_with_len 0 (index_count answers))

-- a line for each answer, processors rising, and those of a processor by their indexes
abbrev pub answer_lines : List (List AnswerRow) → List ReportLine
answer_lines answers = flat_map (λ p. map (answer_line p.0) (by_index p.1))
    (enumerate_from 0 answers)

-- a line for each entry in the order of service; none where that is not wanted
abbrev pub order_lines : List OrderLine → List ReportLine
order_lines order = map lines.Order order

-- the lines of the report of a shape with its opening words, the entries of each bank, the answers
-- of each processor, its last words, the order of service, and whether every script is finished
abbrev pub report_lines_of : Shape → List ℕ → List (List EntryRow) → List (List AnswerRow) → List ℕ
    → List OrderLine → Bool → List ReportLine
report_lines_of shape opening entries answers last order finished =
    lines.Header (version_of entries) ∷ lines.Shape (radices_of shape.radices) (length opening) ∷ []
    ++ init_lines opening
    ++ entry_lines entries
    ++ answer_lines answers
    ++ word_lines last
    ++ order_lines order
    ++ lines.End finished ∷ []
