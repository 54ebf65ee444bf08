use Rattle.std.proofs.Common.{◌≡◌, ◌^◌, ◌≤◌, length}
use Rattle.trace_table.specs.Literals.{digits_taken}
use Rattle.trace_table.proofs.literal.digits_taken.Given as goal

abbrev pub invariant-loop-left : goal.invariant-loop-left
invariant-loop-left l = record {
  low : l.number ≤ 2 ^ 64;
  so_far : digits_taken l.radix l.number l.left ≡ digits_taken l.radix 0 l.digits;
}

abbrev pub decreases-loop-left : goal.decreases-loop-left
decreases-loop-left l = length l.left
