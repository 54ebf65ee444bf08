use Rattle.trace_watch.proofs.Alone.{Telling}
use Rattle.trace_watch.proofs.matching.alone_of_each.Given as goal

abbrev pub invariant-loop-i : goal.invariant-loop-i
invariant-loop-i g l = Telling l.calls l.newest l.i l.alone.items
