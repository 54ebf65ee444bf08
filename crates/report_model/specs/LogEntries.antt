-- The log that entries are: what each makes of what those before it gave (this project's own
-- format).
use Rattle.std.specs.Prelude.{ℕ, ◌+◌, ◌==◌, not, nat_lt, List, [], ◌∷◌, length, true}
use Rattle.std.specs.Prelude.{Option, Some, None, Result, Err, if◌then◌else◌}
use Rattle.packet.specs.declared.kinds.Operation.{Operation}
use Rattle.packet.specs.declared.kinds.Reply.{Reply}
use Rattle.packet.specs.declared.kinds.Reply.TheVariants.{Old, Ok as Stored}
use Rattle.lexer.specs.Outcome.{◌>>=◌, then_lines}
use Rattle.lexer.specs.declared.refusal.Refusal.{Refusal}
use Rattle.trace_lines.specs.declared.reason.LineReason.TheVariants as line
use Rattle.trace_lines.specs.Head.{init_read, processor_read, words_read}
use Rattle.trace_lines.specs.Reasons.{map_err}
use Rattle.model_text.specs.declared.logged.Source.TheVariants.{Opening}
use Rattle.model_text.specs.declared.reason.LogReason.{LogReason}
use Rattle.model_text.specs.declared.reason.LogReason.TheVariants as reason
use Rattle.model_text.specs.declared.sources.Found.{Found}
use Rattle.model_text.specs.Lines.{head_logged, log_ended}
use Rattle.model_text.specs.Made.{LogLines, add_operation, add_step, nothing_logged}
use Rattle.model_text.specs.Sources.{found, add_reply, add_served, add_source, add_write, read_write}
use Rattle.report_model.specs.declared.entry.LogEntry.{LogEntry}
use Rattle.report_model.specs.declared.entry.LogEntry.TheVariants as entry
use Rattle.report_model.specs.declared.entry.LineEntry.{LineEntry}
use Rattle.report_model.specs.declared.entry.Named.{Named}

-- the number that a reply carries; none for `ok`
abbrev pub reply_told : Reply → Option ℕ
reply_told Stored = None
reply_told (Old word) = Some word

-- the operation that is named
abbrev pub found_named : LogLines → Named → Result Found LogReason
found_named r name = found r name.processor name.index

-- a fence is the next in a processor's program
abbrev pub fence_made : LogLines → ℕ → ℕ → Result LogLines LogReason
fence_made r number p =
    map_err reason.Line (processor_read r.head p) >>= λ q. add_step r number q None

-- an operation is: its address is below the number of words
abbrev pub made_at : LogLines → ℕ → Operation → ℕ → Result LogLines LogReason
made_at r number o p =
    if not (nat_lt o.address r.head.words)
    then Err (reason.Line (line.AddressLimits 3 r.head.words))
    else add_operation r number p o

abbrev pub operation_made : LogLines → ℕ → ℕ → Operation → Result LogLines LogReason
operation_made r number p o =
    map_err reason.Line (processor_read r.head p) >>= made_at r number o

abbrev pub wrote : LogLines → Named → Result LogLines LogReason
wrote r name = found_named r name >>= add_write r

abbrev pub read_from : LogLines → Named → Named → Result LogLines LogReason
read_from r load write = found_named r load >>= λ f. found_named r write >>= λ w. read_write r f w

abbrev pub opening_read : LogLines → Named → Result LogLines LogReason
opening_read r name = found_named r name >>= λ f. add_source r f Opening

abbrev pub entry_served : LogLines → Named → Result LogLines LogReason
entry_served r name = found_named r name >>= add_served r

abbrev pub entry_replied : LogLines → ℕ → Named → Reply → Result LogLines LogReason
entry_replied r number name reply =
    found_named r name >>= λ f. add_reply r number f (reply_told reply)

-- what an entry makes of it, the one of this number
abbrev pub after_entry : LogLines → ℕ → LogEntry → Result LogLines LogReason
after_entry r number (entry.Init address word) =
    head_logged r (init_read r.head (not (length r.made == 0)) address word)
after_entry r number (entry.Made p None) = fence_made r number p
after_entry r number (entry.Made p (Some o)) = operation_made r number p o
after_entry r number (entry.Wrote name) = wrote r name
after_entry r number (entry.Read load write) = read_from r load write
after_entry r number (entry.ReadOpening name) = opening_read r name
after_entry r number (entry.Served name) = entry_served r name
after_entry r number (entry.Replied name reply) = entry_replied r number name reply

-- the log of some items, of which the first has this number, after what was read: where an item
-- stands, by its number, and what it makes of a log there
abbrev pub entries_log_from : {E : Type 0} → (ℕ → E → ℕ) → (LogLines → ℕ → E → Result LogLines LogReason)
    → LogLines → ℕ → List E → Result LogLines (Refusal LogReason)
entries_log_from line_of after r number [] = log_ended r number
entries_log_from line_of after r number (e ∷ items) =
    then_lines (line_of number e) (after r (line_of number e) e)
    (λ next. entries_log_from line_of after next (number + 1) items)

-- a log of a memory of so many words, of which nothing else is said so far
abbrev pub begun_log : LogLines → ℕ → Result LogLines LogReason
begun_log r words = head_logged r (words_read (record (r.head) { begun = true }) words)

-- the log of all items, over a memory of so many words; or where the first bad item stands, and why it
-- is refused
abbrev pub entries_log : {E : Type 0} → (ℕ → E → ℕ) → (LogLines → ℕ → E → Result LogLines LogReason) → ℕ
    → List E → Result LogLines (Refusal LogReason)
entries_log line_of after words items = then_lines 0 (begun_log nothing_logged words)
    (λ first. entries_log_from line_of after first 1 items)

-- an item of an array stands at its number, from 1
abbrev pub numbered_entries : {E : Type 0} → ℕ → E → ℕ
numbered_entries number e = number

-- the log that entries are
abbrev pub log_of_entries : ℕ → List LogEntry → Result LogLines (Refusal LogReason)
log_of_entries words entries = entries_log numbered_entries after_entry words entries

-- an entry of a text stands at its line
abbrev pub line_of_entry : ℕ → LineEntry → ℕ
line_of_entry number e = e.line

-- what an entry of a text makes of a log, the one of this line
abbrev pub after_line_entry : LogLines → ℕ → LineEntry → Result LogLines LogReason
after_line_entry r line e = after_entry r line e.entry

-- the log that entries of a text are
abbrev pub log_of_lines : ℕ → List LineEntry → Result LogLines (Refusal LogReason)
log_of_lines words entries = entries_log line_of_entry after_line_entry words entries
