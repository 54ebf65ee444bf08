use Rattle.std.proofs.Common.{◌≡◌, ◌<◌, ℕ, Some, slice_get}
use Rattle.packet.specs.Memory.{reply_to}
use Rattle.trace_watch.specs.declared.state.Glimpse.{Glimpse}
use Rattle.trace_watch.specs.Lowered.{MayFind}
use Rattle.trace_watch.proofs.releasing.has_found.Given as goal

abbrev pub invariant-loop-i : goal.invariant-loop-i
invariant-loop-i l = (k : ℕ) (g : Glimpse) → k < l.i → slice_get l.seen k ≡ Some g → MayFind g l.call
    → reply_to l.call.operation.op g.word ≡ l.reply → ⊥
