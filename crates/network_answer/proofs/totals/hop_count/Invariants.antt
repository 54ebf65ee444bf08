use Rattle.std.proofs.Common.{◌≡◌, ◌≤◌, take}
use Rattle.std.specs.List.{count_by}
use Rattle.network_answer.specs.Totals.{is_hop}
use Rattle.network_answer.proofs.totals.hop_count.Given as goal

-- those so far
abbrev pub invariant-loop-x : goal.invariant-loop-x
invariant-loop-x l = record {
  value : l.count ≡ count_by is_hop (take l.x l.kinds);
  low : l.count ≤ l.x;
}
