use Rattle.std.proofs.Common.{◌≡◌, ◌+◌, ◌≤◌, [], length}
use Rattle.std.specs.Str.Lines.{lines}
use Rattle.trace_table.specs.Rows.{table_rows_from}
use Rattle.trace_table.proofs.rows.rows_behind.Given as goal

abbrev pub decreases-loop-line : goal.decreases-loop-line
decreases-loop-line g l = length l.rest

abbrev pub invariant-loop-line : goal.invariant-loop-line
invariant-loop-line g l = record {
  count : l.number + length l.rest ≤ length l.text + 2;
  positive : 1 ≤ l.number;
  reads : table_rows_from l.columns l.rows.items l.number (lines l.rest) ≡ table_rows_from l.columns [] 2 (lines l.text);
}
