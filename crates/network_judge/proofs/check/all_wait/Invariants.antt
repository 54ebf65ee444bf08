use Rattle.std.proofs.Common.{ℕ, ◌<◌}
use Rattle.network_judge.specs.Table.{table_of}
use Rattle.network_judge.specs.Jams.{WaitsForFilled}
use Rattle.network_judge.specs.Clear.{fill_at}
use Rattle.network_judge.proofs.check.all_wait.Given as goal

-- the packets of the first items wait
abbrev pub invariant-loop-place : goal.invariant-loop-place
invariant-loop-place l = (k : ℕ) → k < l.place → WaitsForFilled (table_of l.kinds l.joins l.choices) l.replies l.items (fill_at l.items k)
