use Rattle.std.proofs.Common.{◌≡◌, length, take}
use Rattle.network_machine.specs.Pairs.{cells_of, ArePairs}
use Rattle.network_machine.proofs.pairs.mark_pairs.Given as goal

-- those of the pairs so far
abbrev pub invariant-loop-k : goal.invariant-loop-k
invariant-loop-k g l = record {
  size : length l.rows ≡ length l.initial.rows;
  pairs : ArePairs (take l.k l.joins) (cells_of l.rows);
}
