use Rattle.std.proofs.Common.{ℕ, ◌<◌}
use Rattle.network_judge.specs.Table.{table_of}
use Rattle.network_judge.specs.Spans.{span_at, MeetsNone}
use Rattle.network_judge.proofs.tangles.first_tangle.Given as goal

-- on the way to the first spans packets pass none
abbrev pub invariant-loop-place : goal.invariant-loop-place
invariant-loop-place g l = (a : ℕ) → a < l.place → MeetsNone (table_of l.kinds l.joins l.choices) l.owners.items (span_at l.spans a)
