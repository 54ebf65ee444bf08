use Rattle.trace_watch.proofs.Fitting.{Newest}
use Rattle.trace_watch.proofs.matching.newest_of_each.Given as goal

abbrev pub invariant-loop-i : goal.invariant-loop-i
invariant-loop-i g l = Newest l.calls l.i l.newest.items
