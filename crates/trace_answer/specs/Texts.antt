-- What is printed of a trace that is judged (this project's own format).
use Rattle.std.specs.Prelude.{ℕ, List, [], ◌∷◌, ◌++◌, Option, Some, None, codes, decimal, slice_get}
use Rattle.std.specs.Prelude.{unwrap_or}
use Rattle.std.specs.Prelude.{option_map}
use Rattle.std.specs.List.{join_with_byte, flat_map}
use Rattle.packet.specs.declared.kinds.Reply.{Reply}
use Rattle.report_lines.specs.Line.{op_words, reply_word}
use Rattle.trace_laws.specs.declared.event.Call.{Call}
use Rattle.trace_text.specs.declared.issued.Issued.{Issued}
use Rattle.trace_text.specs.declared.linearize.Unfound.{Unfound}
use Rattle.trace_text.specs.declared.linearize.Unfound.TheVariants.{Memory, Configurations}
use Rattle.trace_text.specs.declared.linearize.Unfound.TheVariants.{Operations}

-- the reply to an operation; `-` where it was not answered
abbrev pub told_word : Option Reply → List ℕ
told_word None = codes "-"
told_word (Some reply) = reply_word reply

-- the words of an operation of the order: its processor, its index, the operation and its reply
abbrev pub order_words : Issued → List (List ℕ)
order_words i = codes "order" ∷ decimal i.processor ∷ decimal i.index
    ∷ op_words i.operation.op i.operation.address (told_word i.reply ∷ [])

-- the line of an operation of the order
abbrev pub order_line_text : Issued → List ℕ
order_line_text i = join_with_byte 32 (order_words i) ++ 10 ∷ []

-- the line of the operation of a call's number; nothing where there is none
abbrev pub call_line : List Issued → Call → List ℕ
call_line issued call = unwrap_or (option_map order_line_text (slice_get issued call.id)) []

-- the lines of an order
abbrev pub lines_text : List Issued → List Call → List ℕ
lines_text issued order = flat_map (call_line issued) order

-- the lines of an order, and that the trace is linearizable
abbrev pub order_text : List Issued → List Call → List ℕ
order_text issued order = lines_text issued order ++ codes "linearizable\n"

-- why a trace is not judged: at which line, and what is more than is allowed there; nothing where
-- memory was refused
abbrev pub undecided_text : Unfound → ℕ → Option (List ℕ)
undecided_text Memory bound = None
undecided_text (Configurations line) bound =
    Some (codes "undecided at line" ++ (32 ∷ decimal line) ++ codes ": more than"
    ++ (32 ∷ decimal bound) ++ codes " configurations")
undecided_text (Operations line) bound =
    Some (codes "undecided at line" ++ (32 ∷ decimal line)
    ++ codes ": more than 64 operations are open on one word")

-- that no order explains a trace up to a line, and why it isn't decided whether one explains what
-- comes before
abbrev pub bad_by_text : ℕ → Unfound → ℕ → Option (List ℕ)
bad_by_text line Memory bound = None
bad_by_text line (Configurations at) bound =
    Some (codes "not linearizable by line" ++ (32 ∷ decimal line) ++ codes ", undecided at"
    ++ (32 ∷ decimal at) ++ codes ": more than" ++ (32 ∷ decimal bound)
    ++ codes " configurations")
bad_by_text line (Operations at) bound =
    Some (codes "not linearizable by line" ++ (32 ∷ decimal line) ++ codes ", undecided at"
    ++ (32 ∷ decimal at) ++ codes ": more than 64 operations are open on one word")
