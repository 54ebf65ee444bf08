use Rattle.std.proofs.Common.{◌≡◌, ◌++◌, length, take, drop}
use Rattle.core_laws.specs.Row.{row_of}
use Rattle.core_laws.specs.Machine.{built_to}
use Rattle.torusmem_c.proofs.reading.put_row.Given as goal

-- the words so far stand at the front of the buffer
abbrev pub invariant-loop-at : goal.invariant-loop-at
invariant-loop-at l = record {
  size : length l.out ≡ length l.fn.out;
  words : l.out ≡ take l.at (row_of (built_to l.machine) l.machine.state) ++ drop l.at l.fn.out;
}
