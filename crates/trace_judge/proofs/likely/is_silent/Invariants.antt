use Rattle.std.proofs.Common.{ℕ, ◌<◌}
use Rattle.packet.specs.declared.kinds.Reply.{Reply}
use Rattle.trace_laws.specs.Traces.{TraceAnswersAt}
use Rattle.trace_judge.proofs.likely.is_silent.Given as goal

abbrev pub invariant-loop-i : goal.invariant-loop-i
invariant-loop-i l = (j id : ℕ) (reply : Reply) → j < l.i → TraceAnswersAt l.events j id reply → ⊥
