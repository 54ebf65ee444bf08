use Rattle.std.proofs.Common.{◌≡◌, [], replicate}
use Rattle.model_text.specs.InsideRows.{row_lists}
use Rattle.model_text.proofs.rows.Rows.empty.Given as goal

abbrev pub invariant-loop : goal.invariant-loop
invariant-loop g l = row_lists l.lists.items ≡ replicate l.counter []
