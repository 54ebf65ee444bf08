-- A table as a trace text (this project's own format).
use Rattle.std.specs.Prelude.{◌≡◌, ◌⊎◌, ℕ, ◌-◌, nat_lt, List, Result, Ok, Err, if◌then◌else◌}
use Rattle.std.specs.List.{slice_index_or}
use Rattle.lexer.specs.declared.refusal.Refusal.{Refusal}
use Rattle.lexer.specs.Outcome.{refusal_at}
use Rattle.trace_lines.specs.declared.reason.LineReason.TheVariants as line
use Rattle.trace_table.specs.declared.moment.Moment.{Moment}
use Rattle.trace_table.specs.declared.reason.TableReason.{TableReason}
use Rattle.trace_table.specs.declared.reason.TableReason.TheVariants as reason
use Rattle.trace_table.specs.declared.row.TableRow.{TableRow}
use Rattle.trace_table.specs.declared.table.TableTrace.{TableTrace}
use Rattle.trace_table.specs.Moments.{AreInTurn, issues_from, lines_of_moments, moments_of}
use Rattle.trace_table.specs.Moments.{rows_of_moments}
use Rattle.trace_table.specs.Text.{table_text}

-- the trace text of rows, and the line of each event: the rows in the order of their issues are its
-- operations, and the issues and answers of these, in the order of time, its events
pub record IsTableText (rows : List TableRow) (text lines : List ℕ) : Type 0 where
  pub issues : List Moment
  pub issues_in_order : AreInTurn (issues_from 0 rows) issues
  pub events : List Moment
  pub events_in_order : AreInTurn (moments_of (rows_of_moments rows issues)) events
  pub is_text : text ≡ table_text (rows_of_moments rows issues) events
  pub are_lines : lines ≡ lines_of_moments (rows_of_moments rows issues) events

-- the trace text of the rows that were read; or the refusal of these, or that of memory at line 0
abbrev pub ReadsTable : {A : Type 0} → Result (List TableRow) (Refusal TableReason)
    → Result (TableTrace A) (Refusal TableReason) → Type 0
ReadsTable read (Ok t) = (rows : List TableRow) × (read ≡ Ok rows)
    × IsTableText rows t.text.items t.lines.items
ReadsTable read (Err e) = (e ≡ refusal_at 0 (reason.Line line.Memory)) ⊎ (read ≡ Err e)

-- the line of the table that a line of the text is of: the events begin at its third line
abbrev pub table_line : List ℕ → ℕ → ℕ
table_line lines number = if nat_lt number 3 then 0 else slice_index_or lines (number - 3) 0
