use Rattle.std.proofs.Common.{◌≡◌}
use Rattle.machine_record.specs.Reading.{rows_from}
use Rattle.machine_record.proofs.reading.rows_from.Given as goal

-- the lines so far are there
abbrev pub invariant-loop-index : goal.invariant-loop-index
invariant-loop-index g l = l.rows.items ≡ rows_from l.bytes l.at l.index
