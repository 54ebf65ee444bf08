use Rattle.std.proofs.Common.{◌≡◌, ℕ, ◌<◌, ◌≤◌}
use Rattle.trace_laws.specs.declared.event.Call.{Call}
use Rattle.trace_laws.specs.Traces.{TraceIssuesAt}
use Rattle.trace_why.proofs.calls.issue_before.Given as goal

abbrev pub invariant-loop-i : goal.invariant-loop-i
invariant-loop-i l = record {
  low : l.i ≤ l.k;
  none : (j : ℕ) (call : Call) → l.i ≤ j → j < l.k → TraceIssuesAt l.events j call → call.id ≡ l.id → ⊥;
}

abbrev pub decreases-loop-i : goal.decreases-loop-i
decreases-loop-i l = l.i
