use Rattle.std.proofs.Common.{◌-◌, ◌≤◌, length}
use Rattle.core_laws.specs.Row.{row_of}
use Rattle.core_laws.specs.Machine.{built_to}
use Rattle.torusmem_c.proofs.reading.row_length.Given as goal

-- the row has so many words at least
abbrev pub invariant-loop-count : goal.invariant-loop-count
invariant-loop-count l = l.count ≤ length (row_of (built_to l.machine) l.machine.state)

-- the words that are not counted yet
abbrev pub decreases-loop-count : goal.decreases-loop-count
decreases-loop-count l = length (row_of (built_to l.machine) l.machine.state) - l.count
