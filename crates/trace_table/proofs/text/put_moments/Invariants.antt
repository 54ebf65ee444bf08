use Rattle.std.proofs.Common.{◌≡◌, ◌++◌, length}
use Rattle.trace_table.specs.Text.{AreOwnIndexes, moments_text}
use Rattle.trace_table.proofs.text.put_moments.Given as goal

abbrev pub invariant-loop-left : goal.invariant-loop-left
invariant-loop-left g l = record {
  indexes : AreOwnIndexes l.rows l.indexes;
  made : l.text.items ++ moments_text l.rows l.left ≡ l.fn.text.items ++ moments_text l.rows l.moments;
}

abbrev pub decreases-loop-left : goal.decreases-loop-left
decreases-loop-left g l = length l.left
