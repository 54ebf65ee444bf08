use Rattle.std.proofs.Common.{◌≡◌, ◌≤◌, ◌&&◌}
use Rattle.std.specs.Prelude.{slice_get}
use Rattle.network_judge.specs.Table.{is_sender}
use Rattle.network_judge.specs.Graph.{flag_at}
use Rattle.network_answer.specs.Totals.{count_below}
use Rattle.network_answer.proofs.totals.marked_senders.Given as goal

-- those so far
abbrev pub invariant-loop-x : goal.invariant-loop-x
invariant-loop-x l = record {
  value : l.count ≡ count_below (λ x. is_sender (slice_get l.kinds x) && flag_at l.width l.used x l.column) l.x;
  low : l.count ≤ l.x;
}
