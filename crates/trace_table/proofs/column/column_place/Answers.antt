use Rattle.std.proofs.Common.{sym, ◌∙◌}
use Rattle.trace_table.specs.Columns.{is_named_so}
use Rattle.trace_table.proofs.Places.{position_mapped}
use Rattle.trace_table.proofs.column.column_place.Goals as goal

pub returns : goal.returns
returns c = c.name_place.ensures ∙ sym (position_mapped (is_named_so c.args.name.now) (λ cell. cell.now) c.args.cells.now)
