use Rattle.std.proofs.Common.{◌≡◌, ◌<◌, ℕ, Some, slice_get}
use Rattle.trace_laws.specs.declared.event.Call.{Call}
use Rattle.trace_watch.proofs.matching.is_alone.Given as goal

abbrev pub invariant-loop-i : goal.invariant-loop-i
invariant-loop-i l = (k : ℕ) (d : Call) → k < l.i → slice_get l.calls k ≡ Some d
    → d.operation.op ≡ l.call.operation.op → (d.id ≡ l.call.id → ⊥) → ⊥
