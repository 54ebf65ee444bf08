use Rattle.std.proofs.Common.{◌≡◌, ℕ, ◌<◌, length}
use Rattle.network_judge.specs.Table.{table_of}
use Rattle.network_judge.specs.Cycles.{link_at}
use Rattle.network_judge.specs.Spans.{span_at, end_of, IsPoint}
use Rattle.network_judge.proofs.circuits.spans_of.Given as goal

-- the parts at the first links
abbrev pub invariant-loop-place : goal.invariant-loop-place
invariant-loop-place g l = record {
  size : length l.spans.items ≡ l.place;
  each : (k : ℕ) → k < l.place
      → IsPoint (table_of l.kinds l.joins l.choices) (end_of (link_at l.links k)) (link_at l.links k).channel (span_at l.spans.items k);
}
