use Rattle.std.proofs.Common.{◌≡◌, ◌<◌, ◌≤◌, ℕ, Some, slice_get}
use Rattle.trace_watch.specs.declared.state.Glimpse.{Glimpse}
use Rattle.trace_watch.proofs.glimpses.has_glimpse.Given as goal

abbrev pub invariant-loop-i : goal.invariant-loop-i
invariant-loop-i l = (k : ℕ) (h : Glimpse) → k < l.i → slice_get l.seen k ≡ Some h → h.word ≡ l.glimpse.word
    → l.glimpse.newest ≤ h.newest → ⊥
