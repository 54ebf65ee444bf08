use Rattle.model_values.specs.Known.{HasSpreadOrder, unknown}
use Rattle.model_values.proofs.spread.spread.Given as goal

-- turns that explain the trace still agree with the table
abbrev pub invariant-passes : goal.invariant-passes
invariant-passes l = HasSpreadOrder l.question l.level l.fn.table l.table

-- each pass notes a pair that was unknown
abbrev pub decreases-passes : goal.decreases-passes
decreases-passes l = unknown l.level l.table
