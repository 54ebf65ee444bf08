use Rattle.std.proofs.Common.{◌≡◌, ◌<◌, ℕ, length}
use Rattle.std.specs.Prelude.{Some, slice_get}
use Rattle.trace_table.specs.declared.row.TableRow.{TableRow}
use Rattle.trace_table.specs.Counts.{count_in}
use Rattle.trace_table.specs.Text.{own_index}
use Rattle.trace_table.proofs.text.own_indexes.Given as goal

abbrev pub invariant-loop-i : goal.invariant-loop-i
invariant-loop-i g l = record {
  long : length l.indexes.items ≡ l.i;
  counts : (p : ℕ) → count_in l.counts.entries p ≡ own_index l.rows p l.i;
  each : (number : ℕ) (row : TableRow) → number < l.i → slice_get l.rows number ≡ Some row
      → slice_get l.indexes.items number ≡ Some (own_index l.rows row.processor number);
}
