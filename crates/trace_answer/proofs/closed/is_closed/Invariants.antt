use Rattle.std.proofs.Common.{◌≤◌, ℕ, length}
use Rattle.state_search.specs.Parts.{IsKept}
use Rattle.trace_answer.specs.Leaving.{MayHaveLeft}
use Rattle.trace_answer.specs.Noted.{HoldsFound}
use Rattle.trace_answer.proofs.closed.is_closed.Given as goal

abbrev pub invariant-events : goal.invariant-events
invariant-events g l = record {
  inside : l.i ≤ length l.events;
  holds : HoldsFound l.issued l.events l.kept (length l.issued) l.i l.found;
  closed : (k j : ℕ) → IsKept l.kept k → (m : MayHaveLeft l.issued l.events k j) → l.i ≤ m.event → IsKept l.kept j;
}

abbrev pub decreases-events : goal.decreases-events
decreases-events g l = l.i
