use Rattle.std.proofs.Common.{◌≡◌, ℕ, ◌<◌, ◌≤◌, length, take}
use Rattle.std.specs.Prelude.{slice_index}
use Rattle.std.specs.List.{count_by}
use Rattle.network_judge.specs.Table.{ejects}
use Rattle.network_judge.proofs.columns.columns_of.Given as goal

-- the columns so far
abbrev pub invariant-loop-x : goal.invariant-loop-x
invariant-loop-x g l = record {
  size : length l.columns.items ≡ l.x;
  each : (k : ℕ) → k < l.x → slice_index l.columns.items k ≡ count_by ejects (take k l.kinds);
  before : l.before ≡ count_by ejects (take l.x l.kinds);
  low : l.before ≤ l.x;
}
