use Rattle.std.proofs.Common.{◌≡◌, ◌≤◌}
use Rattle.network_answer.specs.Totals.{count_below}
use Rattle.network_answer.specs.Reached.{is_hop_up}
use Rattle.network_answer.proofs.reached.hops_up.Given as goal

-- those so far
abbrev pub invariant-loop-x : goal.invariant-loop-x
invariant-loop-x l = record {
  value : l.count ≡ count_below (is_hop_up l.kinds l.flags) l.x;
  low : l.count ≤ l.x;
}
