use Rattle.std.proofs.Common.{◌≡◌, ◌<◌, ℕ, Some, slice_get}
use Rattle.state_search.specs.Parts.{IsKept}
use Rattle.state_search.proofs.parts.are_closed.Given as goal

abbrev pub invariant-loop-k : goal.invariant-loop-k
invariant-loop-k l = (j s : ℕ) → j < l.k → IsKept l.kept j
    → slice_get l.sources j ≡ Some (Some s) → IsKept l.kept s
