use Rattle.std.proofs.Common.{ℕ, ◌<◌, ◌≤◌}
use Rattle.packet.specs.declared.kinds.Reply.{Reply}
use Rattle.trace_laws.specs.Traces.{TraceAnswersAt}
use Rattle.trace_why.proofs.certified.answer_line.Given as goal

abbrev pub invariant-loop-event : goal.invariant-loop-event
invariant-loop-event g l = (j : ℕ) (reply : Reply) → l.from ≤ j → j < l.event
    → TraceAnswersAt l.trace.events j l.id reply → ⊥
