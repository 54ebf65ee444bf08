use Rattle.std.proofs.Common.{◌≡◌, ◌++◌, None, replicate}
use Rattle.trace_judge.proofs.slots.widen.Given as goal

abbrev pub invariant-loop : goal.invariant-loop
invariant-loop g l = l.table.items ≡ l.initial.table.items ++ replicate l.counter None
