use Rattle.std.proofs.Common.{◌≡◌, ◌-◌, ◌<◌, ◌≤◌, [], length}
use Rattle.network_judge.specs.Table.{table_of}
use Rattle.network_judge.specs.Verdicts.{join_at}
use Rattle.network_adaptive.proofs.Begins.{HasBegunSo}
use Rattle.network_adaptive.proofs.comes.begin_by.Given as goal

-- the pairs so far are looked at, and the next one goes there
abbrev pub invariant-pairs : goal.invariant-pairs
invariant-pairs g l = record {
  begun : HasBegunSo l.joins l.to l.k l.initial.seen l.seen;
  low : l.k ≤ length l.joins;
  to : l.k < length l.joins → (join_at (table_of [] l.joins []) l.k).to ≡ l.to;
}

abbrev pub decreases-pairs : goal.decreases-pairs
decreases-pairs g l = length l.joins - l.k
