use Rattle.network_judge.specs.Table.{table_of}
use Rattle.network_judge.specs.Marks.{MarksRoutes}
use Rattle.network_judge.proofs.walk.trace_all.Given as goal

-- the pairs so far have routes, and these are marked
abbrev pub invariant-loop-place : goal.invariant-loop-place
invariant-loop-place l = MarksRoutes (table_of l.kinds l.joins l.choices) l.place l.used
