use Rattle.std.proofs.Common.{◌≡◌, take}
use Rattle.std.specs.List.{filter_map}
use Rattle.report_model.specs.Rows.{row_ordered}
use Rattle.report_model.proofs.rows.rows_by.Given as goal

-- the operations of the order lines so far
abbrev pub invariant-loop-k : goal.invariant-loop-k
invariant-loop-k g l = l.rows.items ≡ filter_map (row_ordered l.entries) (take l.k l.orders)
