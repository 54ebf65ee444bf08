use Rattle.std.proofs.Common.{ℕ, ◌<◌, ◌≤◌}
use Rattle.packet.specs.declared.kinds.Reply.{Reply}
use Rattle.trace_laws.specs.Traces.{TraceAnswersAt}
use Rattle.trace_why.proofs.calls.is_answered.Given as goal

abbrev pub invariant-loop-i : goal.invariant-loop-i
invariant-loop-i l = (j : ℕ) (reply : Reply) → l.from ≤ j → j < l.i → TraceAnswersAt l.events j l.id reply → ⊥
