use Rattle.network_judge.specs.Table.{table_of}
use Rattle.network_answer.specs.Totals.{IsLongestOf}
use Rattle.network_answer.proofs.totals.longest_route.Given as goal

-- the longest so far
abbrev pub invariant-loop-place : goal.invariant-loop-place
invariant-loop-place l = IsLongestOf (table_of l.kinds l.joins l.choices) l.place l.most
