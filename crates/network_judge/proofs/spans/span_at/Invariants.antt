use Rattle.std.proofs.Common.{ℕ, ◌<◌}
use Rattle.std.specs.Prelude.{IfSome, IfNone}
use Rattle.network_judge.specs.Table.{table_of}
use Rattle.network_judge.specs.Spans.{IsPoint, IsMissed}
use Rattle.network_judge.proofs.spans.span_at.Given as goal

-- a part of one of the first pairs, or none of them comes to the channel
abbrev pub invariant-loop-place : goal.invariant-loop-place
invariant-loop-place l = record {
  some : IfSome l.best (IsPoint (table_of l.kinds l.joins l.choices) l.to l.x);
  none : IfNone l.best ((p : ℕ) → p < l.place → IsMissed (table_of l.kinds l.joins l.choices) p l.to l.x);
}
