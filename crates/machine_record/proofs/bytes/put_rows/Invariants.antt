use Rattle.std.proofs.Common.{◌≡◌, ◌++◌, take, All}
use Rattle.std.specs.List.{flat_map}
use Rattle.machine_record.specs.Widths.{IsRow}
use Rattle.machine_record.specs.Bytes.{row_bytes}
use Rattle.machine_record.proofs.bytes.put_rows.Given as goal

-- the lines so far are put
abbrev pub invariant-loop-row : goal.invariant-loop-row
invariant-loop-row g l = record {
  put : l.bytes.items ≡ l.fn.bytes.items ++ flat_map row_bytes (take l.row-index l.rows);
  fit : All IsRow (take l.row-index l.rows);
}
