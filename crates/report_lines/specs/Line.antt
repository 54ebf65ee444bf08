-- What each line of a report spells (this project's own format).
use Rattle.std.specs.Prelude.{ℕ, List, [], ◌∷◌, ◌++◌, ◌==◌, ◌&&◌, true, false, if◌then◌else◌, Option, Some, None}
use Rattle.std.specs.Prelude.{codes, decimal, length, map}
use Rattle.std.specs.List.{flat_map}
use Rattle.lexer.specs.Joined.{line_of_words}
pub use Rattle.lexer.specs.Joined.{joined_on}
use Rattle.packet.specs.declared.kinds.Op.{Op}
use Rattle.packet.specs.declared.kinds.Reply.{Reply}
use Rattle.packet.specs.declared.kinds.Reply.TheVariants.{Old, Ok as Stored}
use Rattle.packet.specs.Kinds.{code_of}
use Rattle.packet.specs.Names.{code_word}
use Rattle.packet.specs.Spelling.{values_of_op}
use Rattle.report_lines.specs.declared.line.Radices.{Radices}
use Rattle.report_lines.specs.declared.line.Radices.TheVariants.{One, Two, Three}
use Rattle.report_lines.specs.declared.line.ReportLine.{ReportLine}
use Rattle.report_lines.specs.declared.line.ReportLine.TheVariants.{Header, Shape, Init, Entry, Answer, Word, Order}
use Rattle.report_lines.specs.declared.line.ReportLine.TheVariants.{End}

-- the radix of each dimension, as a list
abbrev pub radix_list : Radices → List ℕ
radix_list (One k) = k ∷ []
radix_list (Two j k) = j ∷ k ∷ []
radix_list (Three j k l) = j ∷ k ∷ l ∷ []

-- numbers joined by `x`
abbrev pub crossed : ℕ → List ℕ → List ℕ
crossed k ks = decimal k ++ flat_map (λ j. 120 ∷ decimal j) ks

-- the one radix of all dimensions, or where they differ their list joined by `x`
abbrev pub radix_word : Radices → List ℕ
radix_word (One k) = decimal k
radix_word (Two j k) = if j == k then decimal j else crossed j (k ∷ [])
radix_word (Three j k l) = if (j == k) && (k == l) then decimal j else crossed j (k ∷ l ∷ [])

-- `ok` for a store, else the old word
abbrev pub reply_word : Reply → List ℕ
reply_word Stored = codes "ok"
reply_word (Old word) = decimal word

-- the operation with its address and the values that were sent, and the words after it
abbrev pub op_words : Op → ℕ → List (List ℕ) → List (List ℕ)
op_words op address more =
    code_word (code_of op) ∷ decimal address ∷ (map decimal (values_of_op op) ++ more)

-- an event number, or `-` for an entry that is not answered
abbrev pub event_word : Option ℕ → List ℕ
event_word None = codes "-"
event_word (Some number) = decimal number

-- the words of a line (this project's own format)
abbrev pub words_of : ReportLine → List (List ℕ)
words_of (Header version) = codes "torusmem" ∷ decimal version ∷ []
words_of (Shape radices words) =
    codes "shape" ∷ radix_word radices ∷ decimal (length (radix_list radices)) ∷ decimal words ∷ []
words_of (Init address value) = codes "init" ∷ decimal address ∷ decimal value ∷ []
words_of (Entry e) = codes "entry" ∷ decimal e.bank ∷ decimal e.place ∷ decimal e.source
    ∷ decimal e.tag ∷ op_words e.op e.address (reply_word e.reply ∷ [])
words_of (Answer a) = codes "answer" ∷ decimal a.processor ∷ decimal a.index ∷ decimal a.bank
    ∷ decimal a.place ∷ reply_word a.reply ∷ []
words_of (Word address value) = codes "word" ∷ decimal address ∷ decimal value ∷ []
words_of (Order o) = codes "order" ∷ decimal o.bank ∷ decimal o.place ∷ decimal o.issued
    ∷ decimal o.served ∷ event_word o.answered ∷ []
words_of (End true) = codes "end" ∷ codes "complete" ∷ []
words_of (End false) = codes "end" ∷ codes "incomplete" ∷ []

-- the words behind the first one of a line, each after a space, and the line feed
abbrev pub words_behind : List (List ℕ) → List ℕ
words_behind [] = 10 ∷ []
words_behind (word ∷ words) = 32 ∷ word ++ words_behind words

-- the bytes of a line: its words with one space between each two, and a line feed
abbrev pub line_text : ReportLine → List ℕ
line_text line = line_of_words (words_of line)

-- the bytes of a report: those of its lines, one after another
abbrev pub text_of : List ReportLine → List ℕ
text_of lines = flat_map line_text lines
