use Rattle.std.proofs.Common.{◌≡◌, ◌<◌, ℕ, Some, slice_get}
use Rattle.trace_watch.specs.declared.state.Glimpse.{Glimpse}
use Rattle.trace_watch.specs.States.{IsGlimpsed}
use Rattle.trace_watch.proofs.glimpses.are_seen.Given as goal

abbrev pub invariant-loop-i : goal.invariant-loop-i
invariant-loop-i l = (k : ℕ) (g : Glimpse) → k < l.i → slice_get l.others k ≡ Some g → IsGlimpsed l.seen g
