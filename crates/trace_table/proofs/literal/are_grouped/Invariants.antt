use Rattle.std.proofs.Common.{◌≡◌, false, length}
use Rattle.trace_table.specs.Literals.{are_grouped}
use Rattle.trace_table.proofs.literal.are_grouped.Given as goal

abbrev pub invariant-loop-left : goal.invariant-loop-left
invariant-loop-left l =
    are_grouped l.radix l.is_behind l.left ≡ are_grouped l.radix false l.digits

abbrev pub decreases-loop-left : goal.decreases-loop-left
decreases-loop-left l = length l.left
