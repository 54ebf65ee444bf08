use Rattle.std.proofs.Common.{◌≡◌, ◌-◌, ◌<◌, ◌≤◌, [], length}
use Rattle.std.specs.Prelude.{slice_index}
use Rattle.network_judge.specs.Table.{table_of}
use Rattle.network_judge.specs.Verdicts.{join_at}
use Rattle.network_adaptive.proofs.Pairs.{IsMostSo}
use Rattle.network_adaptive.proofs.longest.most_from.Given as goal

-- the most of the pairs so far, and the next one goes there
abbrev pub invariant-pairs : goal.invariant-pairs
invariant-pairs g l = record {
  so : IsMostSo l.joins l.to (slice_index l.far) l.least l.k l.most;
  low : l.k ≤ length l.joins;
  to : l.k < length l.joins → (join_at (table_of [] l.joins []) l.k).to ≡ l.to;
}

abbrev pub decreases-pairs : goal.decreases-pairs
decreases-pairs g l = length l.joins - l.k
