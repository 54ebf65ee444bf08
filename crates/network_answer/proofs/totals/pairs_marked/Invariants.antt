use Rattle.std.proofs.Common.{◌≡◌, ◌≤◌, ◌*◌, take, length}
use Rattle.std.specs.List.{count_by}
use Rattle.wormhole.specs.Weight.{sum_below}
use Rattle.network_judge.specs.Table.{ejects}
use Rattle.network_answer.specs.Totals.{pairs_to}
use Rattle.network_answer.proofs.totals.pairs_marked.Given as goal

-- those to the channels so far
abbrev pub invariant-loop-to : goal.invariant-loop-to
invariant-loop-to l = record {
  value : l.count ≡ sum_below l.to (pairs_to l.joins (length l.kinds));
  low : l.count ≤ count_by ejects (take l.to l.kinds) * length l.kinds;
}
