use Rattle.std.proofs.Common.{◌≡◌, ◌≤◌, take}
use Rattle.std.specs.List.{count_by}
use Rattle.network_answer.specs.Totals.{injects}
use Rattle.network_answer.proofs.totals.injection_count.Given as goal

-- those so far
abbrev pub invariant-loop-x : goal.invariant-loop-x
invariant-loop-x l = record {
  value : l.count ≡ count_by injects (take l.x l.kinds);
  low : l.count ≤ l.x;
}
