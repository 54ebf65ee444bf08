use Rattle.std.proofs.Common.{◌≡◌, ◌+◌, drop}
use Rattle.torusmem_c.specs.Orders.{answered_first}
use Rattle.torusmem_c.proofs.order.answered_first.Given as goal

-- the rows so far have an answer
abbrev pub invariant-loop-at : goal.invariant-loop-at
invariant-loop-at l = l.at + answered_first (drop l.at l.rows) ≡ answered_first l.rows
