use Rattle.trace_watch.proofs.LowLoops.{SeenLowered}
use Rattle.trace_watch.proofs.lowering.lowered_seen.Given as goal

abbrev pub invariant-loop-i : goal.invariant-loop-i
invariant-loop-i g l = SeenLowered l.calls l.seen l.i l.lowered.items
