-- The bytes of a line and what stands behind it, from left to right.
use Rattle.std.specs.Prelude.{ℕ, ◌==◌, ◌&&◌, if◌then◌else◌, List, [], ◌∷◌, ◌++◌, true, false, Option, Some, None, codes}
use Rattle.std.specs.Prelude.{decimal}
use Rattle.packet.specs.declared.kinds.Op.{Op}
use Rattle.packet.specs.Kinds.{code_of}
use Rattle.packet.specs.Names.{code_word}
use Rattle.packet.specs.Spelling.{values_of_op}
use Rattle.packet.specs.declared.kinds.Reply.{Reply}
use Rattle.packet.specs.declared.kinds.Reply.TheVariants.{Old, Ok as Stored}
use Rattle.report_lines.specs.declared.line.Radices.{Radices}
use Rattle.report_lines.specs.declared.line.Radices.TheVariants.{One, Two, Three}
use Rattle.report_lines.specs.declared.line.ReportLine.{ReportLine}
use Rattle.report_lines.specs.declared.line.ReportLine.TheVariants.{Header, Shape, Init, Entry, Answer, Word, Order}
use Rattle.report_lines.specs.declared.line.ReportLine.TheVariants.{End}

-- a reply at the end of a line
abbrev pub reply_then : Reply → List ℕ → List ℕ
reply_then Stored rest = codes "ok\n" ++ rest
reply_then (Old word) rest = decimal word ++ 10 ∷ rest

-- an event number or a dash at the end of a line
abbrev pub event_then : Option ℕ → List ℕ → List ℕ
event_then None rest = codes "-\n" ++ rest
event_then (Some n) rest = decimal n ++ 10 ∷ rest

-- an address and a value up to an end
abbrev pub pair_then : ℕ → ℕ → ℕ → List ℕ → List ℕ
pair_then end address value rest = decimal address ++ 32 ∷ (decimal value ++ end ∷ rest)

-- four indexes, each up to a space
abbrev pub four_then : ℕ → ℕ → ℕ → ℕ → List ℕ → List ℕ
four_then a b c d rest =
    decimal a ++ 32 ∷ (decimal b ++ 32 ∷ (decimal c ++ 32 ∷ (decimal d ++ 32 ∷ rest)))

-- values, each up to a space
abbrev pub values_then : List ℕ → List ℕ → List ℕ
values_then [] rest = rest
values_then (value ∷ values) rest = decimal value ++ 32 ∷ values_then values rest

-- an operation with its address and its values, each behind its word up to a space
abbrev pub op_then : Op → ℕ → List ℕ → List ℕ
op_then op address rest =
    code_word (code_of op) ++ 32 ∷ (decimal address ++ 32 ∷ values_then (values_of_op op) rest)

-- the radices and their number
abbrev pub radices_then : Radices → List ℕ → List ℕ
radices_then (One k) rest = decimal k ++ 32 ∷ (codes "1 " ++ rest)
radices_then (Two j k) rest =
    if j == k then decimal j ++ 32 ∷ (codes "2 " ++ rest)
    else decimal j ++ 120 ∷ (decimal k ++ 32 ∷ (codes "2 " ++ rest))
radices_then (Three j k l) rest =
    if (j == k) && (k == l) then decimal j ++ 32 ∷ (codes "3 " ++ rest)
    else decimal j ++ 120 ∷ (decimal k ++ 120 ∷ (decimal l ++ 32 ∷ (codes "3 " ++ rest)))

-- a line (this project's own format: what `line_text` says, without joining)
abbrev pub line_then : ReportLine → List ℕ → List ℕ
line_then (Header version) rest = codes "torusmem " ++ (decimal version ++ 10 ∷ rest)
line_then (Shape radices words) rest =
    codes "shape " ++ radices_then radices (decimal words ++ 10 ∷ rest)
line_then (Init address value) rest = codes "init " ++ pair_then 10 address value rest
line_then (Entry e) rest =
    codes "entry "
    ++ four_then e.bank e.place e.source e.tag (op_then e.op e.address (reply_then e.reply rest))
line_then (Answer a) rest =
    codes "answer " ++ four_then a.processor a.index a.bank a.place (reply_then a.reply rest)
line_then (Word address value) rest = codes "word " ++ pair_then 10 address value rest
line_then (Order o) rest =
    codes "order " ++ four_then o.bank o.place o.issued o.served (event_then o.answered rest)
line_then (End true) rest = codes "end complete\n" ++ rest
line_then (End false) rest = codes "end incomplete\n" ++ rest
