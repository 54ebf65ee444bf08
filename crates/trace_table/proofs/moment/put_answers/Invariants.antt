use Rattle.std.proofs.Common.{◌≡◌, ◌+◌, ◌++◌, length}
use Rattle.trace_table.specs.Moments.{answers_from}
use Rattle.trace_table.proofs.moment.put_answers.Given as goal

abbrev pub invariant-loop-left : goal.invariant-loop-left
invariant-loop-left g l = record {
  count : l.number + length l.left ≡ length l.rows;
  made : l.moments.items ++ answers_from l.number l.left ≡ l.fn.moments.items ++ answers_from 0 l.rows;
}

abbrev pub decreases-loop-left : goal.decreases-loop-left
decreases-loop-left g l = length l.left
