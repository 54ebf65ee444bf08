use Rattle.std.proofs.Common.{◌≡◌, ◌<◌, ℕ, Some, slice_get}
use Rattle.std.specs.Prelude.{Contains}
use Rattle.packet.specs.Memory.{new_word}
use Rattle.trace_why.specs.declared.calls.CallAt.{CallAt}
use Rattle.trace_why.proofs.values.are_closed.Given as goal

abbrev pub invariant-loop-x : goal.invariant-loop-x
invariant-loop-x l = (y j u : ℕ) (c : CallAt) → y < l.x → slice_get l.values y ≡ Some u → slice_get l.calls j ≡ Some c
    → Contains l.values (new_word c.call.operation.op u)
