use Rattle.std.proofs.Common.{◌≡◌, ◌<◌, false, ℕ}
use Rattle.network_judge.specs.Graph.{flag_at}
use Rattle.network_answer.proofs.totals.is_hop_marked.Given as goal

-- no mark so far
abbrev pub invariant-loop-column : goal.invariant-loop-column
invariant-loop-column l = (k : ℕ) → k < l.column → flag_at l.width l.used l.x k ≡ false
