-- Which refusal the sentence on a table names.
use Rattle.std.specs.Prelude.{◌≡◌, ◌⊎◌, ℕ, true, List, Option, Some, None, Err, is_ok}
use Rattle.lexer.specs.declared.refusal.Refusal.{Refusal}
use Rattle.lexer.specs.Outcome.{refusal_at}
use Rattle.trace_lines.specs.declared.reason.LineReason.TheVariants as line
use Rattle.trace_table.specs.declared.reason.TableReason.{TableReason}
use Rattle.trace_table.specs.declared.reason.TableReason.TheVariants as reason
use Rattle.trace_table.specs.Rows.{table_rows}

-- of a table of these lines: the refusal that its reader gives, or that of memory; none where it has
-- no fault
abbrev pub TellsTableRefusal : List (List ℕ) → Option (Refusal TableReason) → Type 0
TellsTableRefusal lines None = is_ok (table_rows lines) ≡ true
TellsTableRefusal lines (Some e) =
    (e ≡ refusal_at 0 (reason.Line line.Memory)) ⊎ (table_rows lines ≡ Err e)
