use Rattle.std.proofs.Common.{◌≡◌, ◌++◌, length}
use Rattle.trace_table.specs.Moments.{rows_of_moments}
use Rattle.trace_table.proofs.moment.rows_of_moments.Given as goal

abbrev pub invariant-loop-left : goal.invariant-loop-left
invariant-loop-left g l = l.found.items ++ rows_of_moments l.rows l.left ≡ rows_of_moments l.rows l.moments

abbrev pub decreases-loop-left : goal.decreases-loop-left
decreases-loop-left g l = length l.left
