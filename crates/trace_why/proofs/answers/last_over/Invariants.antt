use Rattle.std.specs.Prelude.{IfSome}
use Rattle.trace_why.specs.Calls.{IsOver}
use Rattle.trace_why.proofs.answers.last_over.Given as goal

abbrev pub invariant-loop-i : goal.invariant-loop-i
invariant-loop-i l = IfSome l.last (IsOver l.events l.n l.address)
