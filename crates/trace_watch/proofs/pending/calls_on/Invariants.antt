use Rattle.std.proofs.Common.{◌≡◌}
use Rattle.trace_laws.specs.declared.event.Call.{Call}
use Rattle.trace_watch.proofs.Sifting.{Filtered}
use Rattle.trace_watch.proofs.pending.calls_on.Given as goal

abbrev pub invariant-loop-i : goal.invariant-loop-i
invariant-loop-i g l = Filtered (λ (c : Call). c.operation.address ≡ l.address) l.calls l.i l.here.items
