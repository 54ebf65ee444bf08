use Rattle.std.proofs.Common.{◌≡◌, ◌+◌, ◌++◌, length}
use Rattle.trace_table.specs.Moments.{issues_from}
use Rattle.trace_table.proofs.moment.issues_of.Given as goal

abbrev pub invariant-loop-left : goal.invariant-loop-left
invariant-loop-left g l = record {
  count : l.number + length l.left ≡ length l.rows;
  made : l.moments.items ++ issues_from l.number l.left ≡ issues_from 0 l.rows;
}

abbrev pub decreases-loop-left : goal.decreases-loop-left
decreases-loop-left g l = length l.left
