use Rattle.model_values.specs.Known.{HasSpreadOrder}
use Rattle.model_values.proofs.first.start_row.Given as goal

-- turns that explain the trace still agree with the table
abbrev pub invariant-loop-y : goal.invariant-loop-y
invariant-loop-y l = HasSpreadOrder l.question 0 l.fn.table l.table
