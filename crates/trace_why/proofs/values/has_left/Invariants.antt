use Rattle.std.proofs.Common.{◌≡◌, ◌<◌, ℕ, Some, slice_get}
use Rattle.std.specs.Prelude.{Contains}
use Rattle.packet.specs.Memory.{new_word}
use Rattle.trace_why.specs.declared.calls.CallAt.{CallAt}
use Rattle.trace_why.proofs.values.has_left.Given as goal

abbrev pub invariant-loop-j : goal.invariant-loop-j
invariant-loop-j l = (i : ℕ) (c : CallAt) → i < l.j → slice_get l.calls i ≡ Some c
    → Contains l.values (new_word c.call.operation.op l.value)
