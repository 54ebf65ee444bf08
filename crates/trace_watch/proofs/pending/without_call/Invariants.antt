use Rattle.std.proofs.Common.{◌≡◌}
use Rattle.trace_laws.specs.declared.event.Call.{Call}
use Rattle.trace_watch.proofs.Sifting.{Filtered}
use Rattle.trace_watch.proofs.pending.without_call.Given as goal

abbrev pub invariant-loop-i : goal.invariant-loop-i
invariant-loop-i g l = Filtered (λ (c : Call). c.id ≡ l.id → ⊥) l.calls l.i l.kept.items
