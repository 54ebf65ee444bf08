use Rattle.std.proofs.Common.{◌≡◌, ◌≤◌, take}
use Rattle.std.specs.List.{count_by}
use Rattle.network_judge.specs.Table.{ejects}
use Rattle.network_adaptive.proofs.spread.base_of.Given as goal

-- the ejection channels so far are counted
abbrev pub invariant-loop-x : goal.invariant-loop-x
invariant-loop-x l = record {
  before : l.before ≡ count_by ejects (take l.x l.kinds);
  low : l.before ≤ l.x;
}
