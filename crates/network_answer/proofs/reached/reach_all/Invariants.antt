use Rattle.std.proofs.Common.{◌≡◌, ◌≤◌, ◌*◌, take, length}
use Rattle.std.specs.List.{count_by}
use Rattle.wormhole.specs.Weight.{sum_below}
use Rattle.network_judge.specs.Table.{ejects}
use Rattle.network_adaptive.specs.Travel.{step_to}
use Rattle.network_answer.specs.Totals.{pairs_to}
use Rattle.network_answer.specs.Reached.{AreReached}
use Rattle.network_answer.proofs.reached.reach_all.Given as goal

-- those to the channels so far
abbrev pub invariant-loop-to : goal.invariant-loop-to
invariant-loop-to g l = record {
  value : l.count ≡ sum_below l.to (pairs_to l.joins (length l.kinds));
  low : l.count ≤ count_by ejects (take l.to l.kinds) * length l.kinds;
  flags : AreReached l.kinds l.joins (step_to l.kinds l.choices l.ways l.none) l.to l.flags.items;
}
