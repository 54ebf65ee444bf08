use Rattle.std.proofs.Common.{◌≤◌}
use Rattle.network_judge.specs.Table.{table_of}
use Rattle.network_answer.specs.Totals.{IsCountOf, IsHopUsed}
use Rattle.network_answer.proofs.totals.hops_marked.Given as goal

-- those so far
abbrev pub invariant-loop-x : goal.invariant-loop-x
invariant-loop-x l = record {
  value : IsCountOf (IsHopUsed (table_of l.kinds l.joins l.choices)) l.x l.count;
  low : l.count ≤ l.x;
}
