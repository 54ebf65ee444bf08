use Rattle.trace_watch.specs.Lowered.{MayFind}
use Rattle.trace_watch.proofs.Newest.{NewestBelow}
use Rattle.trace_watch.proofs.lowering.finder_among.Given as goal

abbrev pub invariant-loop-i : goal.invariant-loop-i
invariant-loop-i l = NewestBelow l.calls (MayFind l.glimpse) l.i l.newest
