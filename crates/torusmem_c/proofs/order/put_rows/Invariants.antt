use Rattle.std.proofs.Common.{◌≡◌, ◌++◌, length, take, drop, map}
use Rattle.torusmem_c.specs.Orders.{ordered_record}
use Rattle.torusmem_c.proofs.order.put_rows.Given as goal

-- what C sees of the rows so far stands at the front of the buffer
abbrev pub invariant-loop-at : goal.invariant-loop-at
invariant-loop-at l = record {
  size : length l.out ≡ length l.fn.out;
  records : l.out ≡ take l.at (map ordered_record l.rows) ++ drop l.at l.fn.out;
}
