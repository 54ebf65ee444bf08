use Rattle.std.proofs.Common.{◌-◌, length}
use Rattle.network_judge.specs.Table.{table_of}
use Rattle.network_judge.specs.Clear.{AreFillsMarked}
use Rattle.network_judge.proofs.check.mark_all.Given as goal

-- the last items are marked
abbrev pub invariant-loop-done : goal.invariant-loop-done
invariant-loop-done g l = AreFillsMarked (table_of l.kinds l.joins l.choices) l.items (length l.items - l.done) l.marks l.ends.items
