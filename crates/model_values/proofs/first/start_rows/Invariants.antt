use Rattle.model_values.specs.Known.{HasSpreadOrder}
use Rattle.model_values.proofs.first.start_rows.Given as goal

-- turns that explain the trace still agree with the table
abbrev pub invariant-loop-i : goal.invariant-loop-i
invariant-loop-i l = HasSpreadOrder l.question 0 l.fn.table l.table
